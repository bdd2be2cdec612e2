use Rattle.checker.proofs.ProgressLaws.{taken_start, taken_on}
use Rattle.checker.proofs.take_chunk.Goals as goal

pub loop-at-init : goal.loop-at-init
loop-at-init g c = taken_start

pub loop-at-preserved : goal.loop-at-preserved
loop-at-preserved g c = taken_on c.loop-at.invariant (rw c.rest.ensures at c.advance-at.ensures)
