use Rattle.verdict.proofs.WordLaws.{BitsSoFar}
use Rattle.verdict.proofs.list_bits.Given as goal

abbrev pub invariant-loop-left : goal.invariant-loop-left
invariant-loop-left l = BitsSoFar l.table l.word l.initial.findings l.from l.findings l.n l.left

abbrev pub decreases-loop-left : goal.decreases-loop-left
decreases-loop-left l = l.left
