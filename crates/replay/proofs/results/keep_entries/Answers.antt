use Rattle.replay.proofs.NumberLaws.{each_join, each_one}
use Rattle.buffer.proofs.KeptLaws.{so_far_start, so_far_on, so_far_end}
use native.Mathlib.Omega.{arith}
use Rattle.replay.proofs.results.keep_entries.Goals as goal

pub loop-entry-init : goal.loop-entry-init
loop-entry-init c = so_far_start (each_join 2)

pub loop-entry-preserved : goal.loop-entry-preserved
loop-entry-preserved c = so_far_on (each_join 2) c.loop-entry.invariant (omega arith) (each_one 2 _ (rw c.to_le_bytes.ensures at c.keep_all-n.ensures))

pub returns : goal.returns
returns c = so_far_end (each_join 2) c.loop-entry.invariant (omega arith)
