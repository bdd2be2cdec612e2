use Rattle.ident.proofs.WrittenLaws.{one_behind, two_behind}
use Rattle.ident.proofs.RemainderLaws.{room_for_17}
use native.Mathlib.Omega.{arith}
use Rattle.ident.proofs.codes.behind.Goals as goal

pub returns-then-value-lt10 : goal.returns-then-value-lt10
returns-then-value-lt10 c = one_behind c.args.k c.args.b c.added_value-value.ensures c.if-value-lt10.true

pub overflow_mul-result-2 : goal.overflow_mul-result-2
overflow_mul-result-2 c = omega (arith, room_for_17)

pub returns : goal.returns
returns c = two_behind c.args.k c.args.b c.added_value-value.ensures c.if-value-lt10.false
