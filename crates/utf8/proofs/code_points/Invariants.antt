use Rattle.utf8.proofs.Laws.{ReadSoFar}
use Rattle.utf8.proofs.code_points.Given as goal

abbrev pub invariant-loop-b : goal.invariant-loop-b
invariant-loop-b l = ReadSoFar l.s l.next l.n l.b-index
