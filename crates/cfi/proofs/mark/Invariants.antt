use Rattle.cfi.proofs.WalkLaws.{MarkedSoFar}
use Rattle.cfi.proofs.mark.Given as goal

abbrev pub invariant-loop-i : goal.invariant-loop-i
invariant-loop-i l = MarkedSoFar l.code l.fn.found l.found l.i
