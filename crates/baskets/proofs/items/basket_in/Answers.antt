use Rattle.std.proofs.Common.{arith, ◌∙◌}
use Rattle.baskets.proofs.LegLaws.{no_basket, items_room, a_basket}
use Rattle.baskets.proofs.items.basket_in.Goals as goal

pub returns-in_default : goal.returns-in_default
returns-in_default c = c.broken_off.ensures ∙ no_basket c.args.s.now c.args.holds (λ h e. grind arith)

pub overflow_add-result : goal.overflow_add-result
overflow_add-result c = omega (arith, items_room c.args.s.now c.args.holds c.items_in-items.ensures)

pub returns : goal.returns
returns c = a_basket c.args.s.now c.args.holds c.items_in-items.ensures (omega arith)
