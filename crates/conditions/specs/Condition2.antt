-- Condition 2: for a line not refused, a code stands in the findings exactly when its rule is violated; each once, rising. A line without
-- findings is accepted, unless refusal 11 falls to it.
use Rattle.std.specs.Prelude.{ℕ, ◌+◌, ◌≤◌, ◌<◌, ◌≡◌, Bool, true, false, cond, ◌&&◌, ◌⊎◌, eqb, length, get_or, take, drop}
use mathlib.Core.List.{List, Memᴰ as Among}
use Rattle.cells.specs.Cells.{cell}
use Rattle.forms.specs.Findings.{status_of, form_finding}
use Rattle.register.specs.declared.rows.Standing.TheVariants.{Live, Cancelled}
use Rattle.facts.specs.Call.{Call}
use Rattle.facts.specs.Rules.{Rule, all_rules, given, is_new, pair_stands}
use Rattle.verdict.specs.declared.Verdict.{Verdict}
use Rattle.verdict.specs.Codes.{codes, code_count}
use Rattle.verdict.specs.Verdict.{bit}
use Rattle.verdict.specs.Counted.{bits_set, bit_at, rising_over, times}
use Rattle.judge.specs.Outcome.{written}
use Rattle.conditions.specs.Condition1.{reached}

-- accepted: answer 0 and n = 0
abbrev pub accepted : Verdict → Bool
accepted verdict = eqb verdict.answer 0 && eqb verdict.count 0

-- what a call lists: the first n entries of the findings buffer
abbrev pub listed : Verdict → List ℕ → List ℕ
listed verdict findings = take verdict.count findings

-- cell f is malformed, or blank though needed
abbrev pub malformed : Call → ℕ → Bool
malformed call f = form_finding (status_of (cell call.line 1)) (cell call.line 47) f (cell call.line f)

-- Of a call that is not refused, with the findings buffer before it, its verdict, and the findings and the register that it leaves
pub record NotRefused (call : Call) (before : List ℕ) (verdict : Verdict) (findings left : List ℕ) : Type 0 where
  -- n is the number listed; later entries stay
  pub count_listed : verdict.count ≡ length (listed verdict findings)
  pub later_stay : drop verdict.count findings ≡ drop verdict.count before
  pub as_long : length findings ≡ length before
  -- n is the number of bits set: one bit for each code in rising order, from the first word's lowest bit on, and none behind them
  pub count_bits : verdict.count ≡ bits_set verdict.words
  pub bit_listed : (i : ℕ) → i < code_count → bit_at verdict.words i ≡ times (get_or codes i 0) (listed verdict findings)
  pub no_bit_behind : (i : ℕ) → code_count ≤ i → i < 192 → bit_at verdict.words i ≡ 0
  -- the codes rise
  pub rise : rising_over 0 (listed verdict findings) ≡ true
  -- each rule's code stands there once if the rule is violated, and else not at all; the same for 1000 + f and the form of cell f
  pub by_rule : (r : Rule) → Among r all_rules → times r.code (listed verdict findings) ≡ bit (given call r)
  pub by_form : (f : ℕ) → 1 ≤ f → f ≤ 65 → times (1000 + f) (listed verdict findings) ≡ bit (malformed call f)
  -- no other number stands there
  pub no_other :
      (x : ℕ) → ((r : Rule) → Among r all_rules → x ≡ r.code → ⊥) → ((f : ℕ) → 1 ≤ f → f ≤ 65 → x ≡ 1000 + f → ⊥)
      → times x (listed verdict findings) ≡ 0
  -- with n = 0 the line's pair is set live by NEW and cancelled by CXL; with n > 0 the register stays
  pub sets_pair : verdict.count ≡ 0 → left ≡ written call
  pub pair_is : verdict.count ≡ 0 → pair_stands left call.line ≡ cond (is_new call.line) Live Cancelled
  pub register_stays : (verdict.count ≡ 0 → ⊥) → left ≡ call.register

pub record Condition2 (call : Call) (before : List ℕ) (verdict : Verdict) (findings left : List ℕ) : Type 0 where
  pub not_refused : verdict.answer ≡ 0 → NotRefused call before verdict findings left
  -- a line that 1 to 10 do not refuse, that violates no rule and has no malformed cell
  pub without_findings :
      reached call (length before) ≡ true → ((r : Rule) → Among r all_rules → given call r ≡ false)
      → ((f : ℕ) → 1 ≤ f → f ≤ 65 → malformed call f ≡ false) → (accepted verdict ≡ true) ⊎ (verdict.answer ≡ 11)
