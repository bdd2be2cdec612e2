-- Condition 1: every call answers and ends, for any bytes handed to it. Bad input gets one of the eleven refusal numbers, in the order
-- given. A refusal counts no finding and changes neither the findings buffer nor the register.
-- That it answers and ends is `answers` (proofs/Contract); this page says what.
use Rattle.std.specs.Prelude.{ℕ, ◌≤◌, ◌≡◌, Bool, not, ◌&&◌, List, [], ◌∷◌, eqb, length}
use Rattle.text.specs.FirstFrom.{first_from}
use Rattle.facts.specs.Call.{Call}
use Rattle.verdict.specs.declared.Verdict.{Verdict}
use Rattle.judge.specs.Refusal.{early, not_whole, tests}

-- none of the first ten holds
abbrev pub reached : Call → ℕ → Bool
reached call room = eqb (first_from 1 (early call room)) 0 && not (not_whole call)

-- Of a call, with the findings buffer before it, its verdict, and the findings and the register that it leaves
pub record Condition1 (call : Call) (before : List ℕ) (verdict : Verdict) (findings left : List ℕ) : Type 0 where
  -- the answer is the number of the first test that holds, and 0 where none does
  pub number : verdict.answer ≡ first_from 1 (tests call (length before))
  pub most : verdict.answer ≤ 11
  -- a refusal
  pub no_finding : (verdict.answer ≡ 0 → ⊥) → verdict.count ≡ 0
  pub no_bit : (verdict.answer ≡ 0 → ⊥) → verdict.words ≡ 0 ∷ 0 ∷ 0 ∷ []
  pub findings_stay : (verdict.answer ≡ 0 → ⊥) → findings ≡ before
  pub register_stays : (verdict.answer ≡ 0 → ⊥) → left ≡ call.register
