-- A line is answered with its verdict, or with the number of the refusal.
use Rattle.std.specs.Prelude.{ℕ, Result, Ok, Err}
use Rattle.verdict.specs.declared.Verdict.{Verdict}
use Rattle.verdict.specs.Verdict.{refused_by}
use Rattle.judge.specs.declared.refusals.Refusal.{Refusal}
use Rattle.judge.specs.declared.refusals.Refusal.TheVariants.{LeiList, CtyList, CcyList, VenList, InsList, Register, Moment, Findings, Length, Cells, Full}

abbrev pub number : Refusal → ℕ
number LeiList = 1
number CtyList = 2
number CcyList = 3
number VenList = 4
number InsList = 5
number Register = 6
number Moment = 7
number Findings = 8
number Length = 9
number Cells = 10
number Full = 11

-- 0 where nothing is refused
abbrev pub number_in : Result Unit Refusal → ℕ
number_in (Ok u) = 0
number_in (Err refusal) = number refusal

abbrev pub answered : Result Verdict Refusal → Verdict
answered (Ok verdict) = verdict
answered (Err refusal) = refused_by (number refusal)
