use mathlib.Core.Path.{◌≡◌, ◌∙◌, refl, sym, ap}
use mathlib.Core.Bool.{Bool, true, ◌&&◌}
use mathlib.Core.List.{List}
use Prim.Native.Nat.{ℕ}
use lib.ListN.{take, drop}
use Rattle.std.specs.Prelude.{Some, None}
use Rattle.text.specs.Ascii.{ascii}
use Rattle.text.specs.Shape.{shape}
use Rattle.text.proofs.Bools.{and_left, cond_yes, cond_no}
use Rattle.calendar.specs.Day.{is_day}
use Rattle.calendar.specs.Moments.{is_ending, when_of}
use Rattle.calendar.specs.Places.{digits_at, date_places, time_places}
use Rattle.calendar.proofs.PlaceLaws.{marked, below, by_pattern, of_front}
use Rattle.calendar.proofs.MomentLaws.{no_ending, not_written, written}
use Rattle.calendar.proofs.moments.parse_moment.Goals as goal

-- what the calls tell of the cell's shape
shapes : (s : List ℕ) {front back : List ℕ} {is_written ends : Bool} → front ≡ take 19 s → back ≡ drop 19 s
    → is_written ≡ shape (ascii "dddd-dd-ddTdd:dd:dd") front → ends ≡ is_ending back
    → (is_written && ends) ≡ (shape (ascii "dddd-dd-ddTdd:dd:dd") (take 19 s) && is_ending (drop 19 s))
shapes s f b w e = λ i. (w ∙ ap (shape (ascii "dddd-dd-ddTdd:dd:dd")) f) i && (e ∙ ap is_ending b) i

-- of a cell of that shape the places of the date and of the time are digits
digits_there : (s places : List ℕ) → below 19 places ≡ true → marked (ascii "dddd-dd-ddTdd:dd:dd") places ≡ true
    → (shape (ascii "dddd-dd-ddTdd:dd:dd") (take 19 s) && is_ending (drop 19 s)) ≡ true → digits_at places s ≡ true
digits_there s places front marks right =
    sym (of_front 19 places s front)
    ∙ by_pattern (ascii "dddd-dd-ddTdd:dd:dd") (take 19 s) places marks (and_left (shape (ascii "dddd-dd-ddTdd:dd:dd") (take 19 s)) (is_ending (drop 19 s)) right)

pub returns-then-s-lt20 : goal.returns-then-s-lt20
returns-then-s-lt20 c = no_ending c.args.s.now c.if-s-lt20.true

pub returns-then-not-is_written-is_ending : goal.returns-then-not-is_written-is_ending
returns-then-not-is_written-is_ending c =
    not_written c.args.s.now (sym (shapes c.args.s.now c.split_at.ensures.front c.split_at.ensures.back c.is_written.ensures c.is_ending.ensures) ∙ c.if-not-is_written-is_ending.true)

pub day_written-day-requires : goal.day_written-day-requires
day_written-day-requires c =
    digits_there c.args.s.now date_places refl refl (sym (shapes c.args.s.now c.split_at.ensures.front c.split_at.ensures.back c.is_written.ensures c.is_ending.ensures) ∙ c.if-not-is_written-is_ending.false)

pub is_time-requires : goal.is_time-requires
is_time-requires c =
    digits_there c.args.s.now time_places refl refl (sym (shapes c.args.s.now c.split_at.ensures.front c.split_at.ensures.back c.is_written.ensures c.is_ending.ensures) ∙ c.if-not-is_written-is_ending.false)

pub micro_written-micro-requires : goal.micro_written-micro-requires
micro_written-micro-requires c =
    digits_there c.args.s.now time_places refl refl (sym (shapes c.args.s.now c.split_at.ensures.front c.split_at.ensures.back c.is_written.ensures c.is_ending.ensures) ∙ c.if-not-is_written-is_ending.false)

pub returns-then-not-is_day-is_time : goal.returns-then-not-is_day-is_time
unfolding when_of
returns-then-not-is_day-is_time c =
    let right = sym (shapes c.args.s.now c.split_at.ensures.front c.split_at.ensures.back c.is_written.ensures c.is_ending.ensures) ∙ c.if-not-is_written-is_ending.false in
    cond_no _ (written c.args.s.now right ∙ sym (λ i. (c.is_day.ensures ∙ ap is_day c.day_written-day.ensures) i && c.is_time.ensures i) ∙ c.if-not-is_day-is_time.true) refl

pub returns : goal.returns
unfolding when_of
returns c =
    let right = sym (shapes c.args.s.now c.split_at.ensures.front c.split_at.ensures.back c.is_written.ensures c.is_ending.ensures) ∙ c.if-not-is_written-is_ending.false in
    let day = c.day_written-day.ensures in
    cond_yes None
    (written c.args.s.now right ∙ sym (λ i. (c.is_day.ensures ∙ ap is_day day) i && c.is_time.ensures i) ∙ c.if-not-is_day-is_time.false)
    (λ i. Some (record { day = day i; micro = c.micro_written-micro.ensures i }))
