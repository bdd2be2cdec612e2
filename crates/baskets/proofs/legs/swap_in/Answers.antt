use Rattle.baskets.proofs.LegLaws.{swap_one, first_room, second_room, swap_room, swap_two}
use native.Mathlib.Omega.{arith}
use Rattle.baskets.proofs.legs.swap_in.Goals as goal

pub returns-then-first-s : goal.returns-then-first-s
returns-then-first-s c = swap_one c.args.holds c.args.s.now c.leg_in-first.ensures c.if-first-s.true

pub overflow_add-at : goal.overflow_add-at
overflow_add-at c = omega (arith, first_room c.args.holds c.args.s.now c.leg_in-first.ensures)

pub overflow_add-first : goal.overflow_add-first
overflow_add-first c = omega (arith, first_room c.args.holds c.args.s.now c.leg_in-first.ensures)

pub overflow_add-at-2 : goal.overflow_add-at-2
overflow_add-at-2 c = omega (arith, second_room c.args.holds c.args.s.now c.leg_in-first.ensures c.rest.ensures c.in_front.ensures)

pub overflow_add-end : goal.overflow_add-end
overflow_add-end c = omega (arith, swap_room c.args.holds c.args.s.now c.leg_in-first.ensures c.rest.ensures c.in_front.ensures c.rest-2.ensures c.leg_in-second.ensures)

pub returns : goal.returns
returns c = swap_two c.args.holds c.args.s.now c.leg_in-first.ensures c.rest.ensures c.in_front.ensures c.rest-2.ensures c.leg_in-second.ensures c.if-first-s.false c.byte_at-parted.ensures c.byte_at.ensures c.byte_at-2.ensures
