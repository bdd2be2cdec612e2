use Rattle.buffer.proofs.KeptLaws.{keep_room, bytes_join, so_far_start, so_far_on, so_far_end}
use native.Mathlib.Omega.{arith}
use Rattle.buffer.proofs.keep_all.Goals as goal

pub loop-b-init : goal.loop-b-init
loop-b-init c = so_far_start bytes_join

pub loop-b-preserved : goal.loop-b-preserved
loop-b-preserved c = so_far_on bytes_join c.loop-b.invariant (omega arith) c.keep-n.ensures

pub shape_of-buffer : goal.shape_of-buffer
shape_of-buffer c = keep_room c.loop-b.invariant.so_far

pub returns : goal.returns
returns c = so_far_end bytes_join c.loop-b.invariant (omega arith)
