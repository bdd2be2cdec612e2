use Rattle.ident.proofs.RemainderLaws.{BehindSoFar}
use Rattle.ident.proofs.codes.with_last.Given as goal

abbrev pub invariant-loop-i : goal.invariant-loop-i
invariant-loop-i l = BehindSoFar l.k l.s l.v l.i
