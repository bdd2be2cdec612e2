use Rattle.ident.proofs.CheckLaws.{small_digit, with_one, with_two}
use Prim.Native.Nat.{◌/◌}
use native.Mathlib.Omega.{arith}
use Rattle.ident.proofs.isins.with_value.Goals as goal

pub returns-then-value-lt10 : goal.returns-then-value-lt10
returns-then-value-lt10 c = with_one c.args.x c.args.value c.if-value-lt10.true c.with_digit.ensures

pub with_digit-requires-3 : goal.with_digit-requires-3
with_digit-requires-3 c = rw c.with_digit-2.ensures ((small_digit c.args.x (c.args.value / 10)).plain_small, (small_digit c.args.x (c.args.value / 10)).twice_small, omega arith)

pub returns : goal.returns
returns c = with_two c.args.x c.args.value c.if-value-lt10.false c.with_digit-2.ensures c.with_digit-3.ensures
