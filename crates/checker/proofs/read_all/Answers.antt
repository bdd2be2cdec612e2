use Rattle.std.proofs.Common.{arith}
use Rattle.checker.proofs.ProgressLaws.{on_start, on_more, on_done, on_ended}
use Rattle.checker.proofs.read_all.Goals as goal

pub loop-init : goal.loop-init
loop-init g c = on_start

pub returns-then-ended : goal.returns-then-ended
returns-then-ended g c = on_ended (rw c.if-ended.true at (on_more c.loop.invariant c.in_ok-ended.ensures))

pub loop-preserved : goal.loop-preserved
loop-preserved g c = rw c.if-ended.false at (on_more c.loop.invariant c.in_ok-ended.ensures)

pub returns : goal.returns
returns g c = on_done c.loop.invariant (omega arith)
