use Rattle.text.proofs.NumberLaws.{ReadSoFar}
use Rattle.text.proofs.numbers.written_on.Given as goal

abbrev pub invariant-loop-b : goal.invariant-loop-b
invariant-loop-b l = ReadSoFar l.k l.s l.v l.b-index
