use Rattle.text.proofs.ClassLaws.{AllSoFar}
use Rattle.text.proofs.classes.all_of.Given as goal

abbrev pub invariant-loop-b : goal.invariant-loop-b
invariant-loop-b l = AllSoFar l.class l.s l.good l.b-index
