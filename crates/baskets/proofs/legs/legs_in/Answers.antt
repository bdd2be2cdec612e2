use mathlib.Core.Path.{◌∙◌}
use Rattle.baskets.specs.Items.{all_right}
use Rattle.baskets.specs.Legs.{legs_in}
use Rattle.baskets.proofs.legs.legs_in.Goals as goal

pub returns-in-Malformed : goal.returns-in-Malformed
unfolding legs_in all_right
returns-in-Malformed c = c.broken_off.ensures ∙ rw c.in-Malformed.is
