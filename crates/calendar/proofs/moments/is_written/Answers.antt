use mathlib.Core.Path.{◌∙◌, sym}
use mathlib.Core.Bool.{true, ◌&&◌}
use lib.Dec.{eqb}
use lib.ListN.{get_or}
use Rattle.text.specs.Ascii.{ascii}
use Rattle.text.proofs.WordLaws.{other_length}
use Rattle.text.proofs.RunLaws.{in_runs}
use Rattle.calendar.proofs.CellRuns.{moment_runs}
use Rattle.calendar.proofs.moments.is_written.Goals as goal

pub returns-then-s-ne19 : goal.returns-then-s-ne19
returns-then-s-ne19 c = other_length (ascii "dddd-dd-ddTdd:dd:dd") c.args.s.now c.if-s-ne19.true

pub returns : goal.returns
returns c = let s = c.args.s.now in
    (λ i. c.all_within.ensures i && eqb (get_or s 4 0) 45 && c.all_within-2.ensures i && eqb (get_or s 7 0) 45 && c.all_within-3.ensures i && eqb (get_or s 10 0) 84
    && c.all_within-4.ensures i && eqb (get_or s 13 0) 58 && c.all_within-5.ensures i && eqb (get_or s 16 0) 58 && c.all_within-6.ensures i)
    ∙ sym (in_runs true 0 moment_runs s c.if-s-ne19.false)
