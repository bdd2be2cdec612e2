use Rattle.baskets.proofs.ItemLaws.{colon_room, value_room, item_room, item_is}
use native.Mathlib.Omega.{arith}
use Rattle.baskets.proofs.items.item_in.Goals as goal

pub overflow_add-n : goal.overflow_add-n
overflow_add-n c = omega (arith, colon_room c.args.s.now c.in_front-n.ensures)

pub overflow_add-at : goal.overflow_add-at
overflow_add-at c = omega (arith, colon_room c.args.s.now c.in_front-n.ensures)

pub overflow_add-at-2 : goal.overflow_add-at-2
overflow_add-at-2 c = omega (arith, value_room c.args.s.now c.in_front-n.ensures c.rest.ensures c.in_front.ensures)

pub overflow_add-result : goal.overflow_add-result
overflow_add-result c = omega (arith, item_room c.args.s.now c.in_front-n.ensures c.rest.ensures c.in_front.ensures c.args.holds c.rest-2.ensures c.value_in-value.ensures)

pub returns : goal.returns
returns c = item_is c.args.s.now c.in_front-n.ensures c.rest.ensures c.in_front.ensures c.args.holds c.rest-2.ensures c.value_in-value.ensures c.byte_at.ensures c.head.ensures c.number_in.ensures
