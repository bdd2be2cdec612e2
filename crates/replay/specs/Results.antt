-- The result of a case, as docs/CASES.md has it.
use Rattle.std.specs.Prelude.{ℕ, ◌+◌, ◌*◌, ◌≤◌, ◌≡◌, List, [], ◌∷◌, ◌++◌, length, take}
use Rattle.verdict.specs.declared.Verdict.{Verdict}
use Rattle.verdict.specs.Findings.{over}
use Rattle.judge.specs.Outcome.{Outcome}
use Rattle.replay.specs.Numbers.{each_in}

-- answer and count in 2 bytes each, the words in 8 each, the findings in 2 each, the register
unfoldable pub written : Verdict → List ℕ → List ℕ → List ℕ
written v findings register =
    each_in 2 (v.answer ∷ v.count ∷ []) ++ (each_in 8 v.words ++ (each_in 2 findings ++ register))

-- the findings buffer and the register are those after the call
abbrev pub result_of : Outcome → List ℕ → List ℕ
result_of o findings = written o.verdict (over o.listed findings) o.register

-- What a case leaves is its outcome, and where there is room for its result, that stands in the first n bytes.
pub record Resulted (o : Outcome) (findings findings' register register' out out' : List ℕ) (n : ℕ) : Type 0 where
  pub writes : 28 + 2 * length findings + length register ≤ length out → take n out' ≡ result_of o findings
  pub lists : findings' ≡ over o.listed findings
  pub keeps : register' ≡ o.register
