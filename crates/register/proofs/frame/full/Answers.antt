use Prim.Native.Nat.{◌+◌}
use Rattle.register.proofs.FrameLaws.{framed_is}
use Rattle.register.proofs.WidthLaws.{told_framed, told_full, none_full, product_small}
use native.Mathlib.Omega.{arith}
use Rattle.register.proofs.frame.full.Goals as goal

pub returns-then-width-eq0 : goal.returns-then-width-eq0
returns-then-width-eq0 c = none_full c.args.register.now c.requires c.if-width-eq0.true

pub overflow_sub-result : goal.overflow_sub-result
overflow_sub-result c = (framed_is c.args.register.now (told_framed c.args.register.now c.requires c.if-width-eq0.false)).head

pub overflow_mul-result : goal.overflow_mul-result
overflow_mul-result c = omega (arith, product_small c.args.register.now c.requires (c.used-rows.result + 1) (omega arith))

pub returns : goal.returns
returns c = rw c.used-rows.ensures (told_full c.args.register.now c.requires (told_framed c.args.register.now c.requires c.if-width-eq0.false))
