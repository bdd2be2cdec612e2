use Rattle.polish.proofs.NumberLaws.{WeighedSoFar}
use Rattle.polish.proofs.numbers.weighed_by.Given as goal

abbrev pub invariant-loop-i : goal.invariant-loop-i
invariant-loop-i l = WeighedSoFar l.weights l.s l.sum l.i
