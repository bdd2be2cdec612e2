use Rattle.buffer.proofs.KeptLaws.{so_far_start, so_far_on, so_far_end}
use Rattle.printing.proofs.DecimalLaws.{spaced_join}
use Rattle.printing.proofs.LentLaws.{code_kept}
use native.Mathlib.Omega.{arith}
use Rattle.printing.proofs.lent.keep_codes.Goals as goal

pub loop-code-init : goal.loop-code-init
loop-code-init c = so_far_start spaced_join

pub loop-code-preserved : goal.loop-code-preserved
loop-code-preserved c =
    so_far_on spaced_join c.loop-code.invariant (omega arith)
    (code_kept c.keep_all-n.ensures c.new-part.ensures c.as_slice.ensures _ (rw c.from.ensures at c.push_spaced.ensures))

pub returns : goal.returns
returns c = so_far_end spaced_join c.loop-code.invariant (omega arith)
