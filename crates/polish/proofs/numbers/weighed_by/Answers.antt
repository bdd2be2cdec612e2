use Prim.Native.Nat.{◌%◌}
use mathlib.Core.Path.{ap}
use native.Mathlib.Omega.{arith}
use Rattle.polish.proofs.NumberLaws.{product_small, weighed_start, weighed_on, weighed_end}
use Rattle.polish.proofs.numbers.weighed_by.Goals as goal

pub loop-i-init : goal.loop-i-init
loop-i-init c = weighed_start

pub loop-i-preserved : goal.loop-i-preserved
loop-i-preserved c = weighed_on c.loop-i.invariant (omega arith) c.digit_of.ensures c.byte_at.ensures c.digit_of-in-loop-i.ensures

pub returns : goal.returns
returns c = ap (λ n. n % c.args.by) (weighed_end c.loop-i.invariant (omega arith))

pub overflow_mul-sum : goal.overflow_mul-sum
overflow_mul-sum c = omega (arith, product_small _ _ c.digit_of.ensures c.digit_of-in-loop-i.ensures)

pub overflow_add-sum : goal.overflow_add-sum
overflow_add-sum c = omega (arith, product_small _ _ c.digit_of.ensures c.digit_of-in-loop-i.ensures)
