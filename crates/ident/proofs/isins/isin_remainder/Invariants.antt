use Rattle.ident.proofs.CheckLaws.{SummedSoFar}
use Rattle.ident.proofs.isins.isin_remainder.Given as goal

abbrev pub invariant-loop-b : goal.invariant-loop-b
invariant-loop-b l = SummedSoFar l.s l.x l.b-index
