use mathlib.Core.Path.{◌∙◌, ap}
use Rattle.register.specs.Rows.{standing_at}
use Rattle.register.proofs.RowLaws.{standing_found}
use Rattle.register.proofs.rows.standing_of.Goals as goal

pub returns : goal.returns
returns c = c.standing_at.ensures ∙ ap (standing_at _) c.find.ensures ∙ standing_found _ _
