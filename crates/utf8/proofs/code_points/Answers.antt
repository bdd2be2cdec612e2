use mathlib.Core.Path.{◌∙◌}
use native.Mathlib.Omega.{arith}
use Rattle.utf8.proofs.Laws.{read_start, read_on, read_end, starts_small}
use Rattle.utf8.proofs.code_points.Goals as goal

pub loop-b-init : goal.loop-b-init
loop-b-init c = read_start

pub overflow_add-n : goal.overflow_add-n
overflow_add-n c = omega (arith, starts_small c.loop-b.next, c.starts-n.ensures)

pub loop-b-preserved : goal.loop-b-preserved
loop-b-preserved c = rw (c.after-next.ensures, c.starts-n.ensures) (read_on c.loop-b.invariant (omega arith))

pub returns : goal.returns
returns c = c.ended.ensures ∙ read_end c.loop-b.invariant (omega arith)
