use Rattle.baskets.proofs.LegLaws.{one_basket}
use Rattle.baskets.proofs.legs.other_in.Goals as goal

pub returns : goal.returns
returns c = one_basket c.args.holds c.args.s.now c.basket_in-basket.ensures
