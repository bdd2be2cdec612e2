use mathlib.Core.Path.{◌∙◌}
use Rattle.summary.proofs.NameLaws.{cell_read, first_is}
use Rattle.summary.proofs.first_cell.Goals as goal

pub returns : goal.returns
returns c = cell_read c.args.line.now 0 c.place_after.ensures c.cell_before.ensures ∙ first_is c.args.line.now
