use Rattle.std.proofs.Common.{arith, ◌∙◌}
use Rattle.baskets.proofs.LegLaws.{no_leg, basket_room, a_leg}
use Rattle.baskets.proofs.legs.leg_in.Goals as goal

pub returns-in_default : goal.returns-in_default
returns-in_default c = c.broken_off.ensures ∙ no_leg c.args.s.now c.args.holds (λ h e. grind arith) (λ h e. grind arith)

pub overflow_add-result : goal.overflow_add-result
overflow_add-result c = omega (arith, basket_room c.args.s.now c.args.holds c.basket_in-basket.ensures)

pub returns : goal.returns
returns c = a_leg c.args.s.now c.args.holds c.basket_in-basket.ensures (λ p m. grind arith)
