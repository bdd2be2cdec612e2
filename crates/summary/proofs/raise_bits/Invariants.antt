use Rattle.summary.proofs.RaiseLaws.{RaisedSoFar}
use Rattle.summary.proofs.raise_bits.Given as goal

abbrev pub invariant-loop-left : goal.invariant-loop-left
invariant-loop-left l = RaisedSoFar l.from l.word l.initial.counters l.counters l.stuck l.left

abbrev pub decreases-loop-left : goal.decreases-loop-left
decreases-loop-left l = l.left
