use Rattle.cfi.proofs.WalkLaws.{FoundSoFar}
use Rattle.cfi.proofs.cfi_findings.Given as goal

abbrev pub invariant-loop-row : goal.invariant-loop-row
invariant-loop-row l = FoundSoFar l.row-items l.kinds l.cfi l.found l.row-index
