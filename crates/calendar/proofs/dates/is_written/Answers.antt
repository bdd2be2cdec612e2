use mathlib.Core.Path.{◌∙◌, sym}
use mathlib.Core.Bool.{true, ◌&&◌}
use lib.Dec.{eqb}
use lib.ListN.{get_or}
use Rattle.text.specs.Ascii.{ascii}
use Rattle.text.proofs.WordLaws.{other_length}
use Rattle.text.proofs.RunLaws.{in_runs}
use Rattle.calendar.proofs.CellRuns.{date_runs}
use Rattle.calendar.proofs.dates.is_written.Goals as goal

pub returns-then-s-ne10 : goal.returns-then-s-ne10
returns-then-s-ne10 c = other_length (ascii "dddd-dd-dd") c.args.s.now c.if-s-ne10.true

pub returns : goal.returns
returns c = let s = c.args.s.now in
    (λ i. c.all_within.ensures i && eqb (get_or s 4 0) 45 && c.all_within-2.ensures i && eqb (get_or s 7 0) 45 && c.all_within-3.ensures i)
    ∙ sym (in_runs true 0 date_runs s c.if-s-ne10.false)
