use Rattle.std.proofs.Common.{arith}
use Rattle.buffer.proofs.TextLaws.{added_start, added_more}
use Rattle.printing.proofs.DecimalLaws.{spaced_join}
use Rattle.printing.proofs.push_codes.Goals as goal

pub loop-code-init : goal.loop-code-init
loop-code-init g c = added_start spaced_join g.row.N c.args.out.now

pub loop-code-preserved : goal.loop-code-preserved
loop-code-preserved g c =
    added_more spaced_join g.row.N c.args.out.now c.args.codes.now c.loop-code.code-index (omega arith) c.loop-code.invariant (rw c.from.ensures at c.push_spaced.ensures)
