use mathlib.Core.Path.{◌∙◌, ap}
use Rattle.reader.specs.Reading.{cell_from, place_after}
use Rattle.summary.proofs.NameLaws.{cell_read, fourth_is}
use Rattle.summary.proofs.fourth_cell.Goals as goal

pub returns : goal.returns
returns c = cell_read c.args.line.now c.place_after-fourth.result c.place_after.ensures c.cell_before.ensures
    ∙ ap (cell_from c.args.line.now) (c.place_after-fourth.ensures ∙ ap (place_after c.args.line.now) (c.place_after-third.ensures ∙ ap (place_after c.args.line.now) c.place_after-second.ensures))
    ∙ fourth_is c.args.line.now
