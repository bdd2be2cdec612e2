use Rattle.std.proofs.Common.{◌-◌, length}
use Rattle.checker.proofs.ProgressLaws.{TakenSoFar}
use Rattle.checker.proofs.take_chunk.Given as goal

abbrev pub invariant-loop-at : goal.invariant-loop-at
invariant-loop-at g l = TakenSoFar l.initial.progress l.chunk l.at l.progress

abbrev pub decreases-loop-at : goal.decreases-loop-at
decreases-loop-at g l = length l.chunk - l.at
