use mathlib.Core.Path.{◌∙◌, refl, sym, ap}
use mathlib.Core.Bool.{cond}
use Rattle.std.specs.Prelude.{Some, None}
use Rattle.text.specs.Ascii.{ascii}
use Rattle.calendar.specs.Day.{is_day}
use Rattle.calendar.specs.Dates.{date_of}
use Rattle.calendar.specs.Places.{date_places}
use Rattle.calendar.proofs.Options.{then_some-cond}
use Rattle.calendar.proofs.PlaceLaws.{by_pattern}
use Rattle.calendar.proofs.dates.parse_date.Goals as goal

pub returns-then-not-is_written : goal.returns-then-not-is_written
unfolding date_of
returns-then-not-is_written c = rw (sym c.is_written.ensures ∙ c.if-not-is_written.true)

pub day_written-day-requires : goal.day_written-day-requires
day_written-day-requires c = by_pattern (ascii "dddd-dd-dd") c.args.s.now date_places refl (sym c.is_written.ensures ∙ c.if-not-is_written.false)

pub returns : goal.returns
unfolding date_of
returns c =
    let day = c.day_written-day.ensures in
    rw (sym c.is_written.ensures ∙ c.if-not-is_written.false)
    (c.then_some.ensures ∙ then_some-cond _ _ ∙ λ i. cond ((c.is_day.ensures ∙ ap is_day day) i) (Some (day i)) None)
