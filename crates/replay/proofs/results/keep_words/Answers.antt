use Rattle.replay.proofs.NumberLaws.{each_join, each_one}
use Rattle.buffer.proofs.KeptLaws.{so_far_start, so_far_on, so_far_end}
use native.Mathlib.Omega.{arith}
use Rattle.replay.proofs.results.keep_words.Goals as goal

pub loop-word-init : goal.loop-word-init
loop-word-init c = so_far_start (each_join 8)

pub loop-word-preserved : goal.loop-word-preserved
loop-word-preserved c = so_far_on (each_join 8) c.loop-word.invariant (omega arith) (each_one 8 _ (rw c.to_le_bytes.ensures at c.keep_all-n.ensures))

pub returns : goal.returns
returns c = so_far_end (each_join 8) c.loop-word.invariant (omega arith)
