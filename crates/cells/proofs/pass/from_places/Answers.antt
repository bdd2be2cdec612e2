use Rattle.cells.proofs.PassLaws.{copied_none, place_small, copied_on, copied_all}
use native.Mathlib.Omega.{arith}
use Rattle.cells.proofs.pass.from_places.Goals as goal

pub loop-k-init : goal.loop-k-init
loop-k-init c = copied_none _

pub loop-k-preserved : goal.loop-k-preserved
loop-k-preserved c = copied_on c.requires c.loop-k.invariant (omega arith)

pub invariant_of-result : goal.invariant_of-result
invariant_of-result c = record { tabled = copied_all c.requires c.loop-k.invariant (omega arith) }

pub overflow_add-starts : goal.overflow_add-starts
overflow_add-starts c = omega (arith, place_small c.requires c.loop-k.k (omega arith))
