-- What cells write, and what it is to be before.
use Prim.Native.Nat.{ℕ, ◌+◌, ◌*◌, ◌≤◌, ◌<◌}
use mathlib.Core.Path.{◌≡◌, ap, subst}
use mathlib.Core.Bool.{true, ◌&&◌}
use mathlib.Core.List.{List}
use native.Mathlib.Omega.{arith}
use lib.Dec.{leb, ltb}
use lib.ListN.{take, drop}
use borrow.Author.Tests.{leb-true, ltb-true, ltb-false, le-leb, lt-ltb, le-ltb, eq-eqb, ne_eqb}
use Rattle.std.specs.Prelude.{Some, None}
use Rattle.text.specs.Ascii.{ascii}
use Rattle.text.specs.Shape.{shape}
use Rattle.text.specs.Number.{two_digits, four_digits}
use Rattle.text.proofs.Bools.{and_left, and_right, by_test}
use Rattle.text.proofs.NumberLaws.{two_small, four_small}
use Rattle.calendar.specs.Day.{year_of, month_of, day_of, is_day}
use Rattle.calendar.specs.Dates.{day_written, date_of}
use Rattle.calendar.specs.Moments.{hour_of, minute_of, second_of, is_time, is_ending, micro_written, is_moment_cell, when_of, is_moment, is_before}
use Rattle.calendar.specs.declared.moments.Moment.{Moment}
use Rattle.calendar.proofs.DayNumber.{day_number}
use Rattle.calendar.proofs.Calendar.{day_order}

-- the year, the month and the day of a date are the digits of the cell
pub digits_written : (s : List ℕ)
    → (year_of (day_written s) ≡ four_digits s) × (month_of (day_written s) ≡ two_digits (drop 5 s)) × (day_of (day_written s) ≡ two_digits (drop 8 s))
unfolding day_written
digits_written s =
    let m = two_small (drop 5 s) in
    let d = two_small (drop 8 s) in
    (omega arith, omega arith, omega arith)

-- the microseconds from the start of the day numbered 0
abbrev pub elapsed : Moment → ℕ
elapsed t = day_number t.day * 86400000000 + t.micro

time_small : (s : List ℕ) → is_time s ≡ true → micro_written s ≤ 86399999999
unfolding is_time micro_written
time_small s e =
    let ab = and_left (leb (hour_of s) 23 && leb (minute_of s) 59) (leb (second_of s) 59) e in
    omega (
      arith,
      leb-true (hour_of s) 23 (and_left (leb (hour_of s) 23) (leb (minute_of s) 59) ab),
      leb-true (minute_of s) 59 (and_right (leb (hour_of s) 23) (leb (minute_of s) 59) ab),
      leb-true (second_of s) 59 (and_right (leb (hour_of s) 23 && leb (minute_of s) 59) (leb (second_of s) 59) e),
      four_small (drop 20 s),
      two_small (drop 24 s),
    )

cell_right : (s : List ℕ) → is_moment_cell s ≡ true → is_moment (day_written s) (micro_written s) ≡ true
unfolding is_moment_cell is_moment
cell_right s e =
    let a = shape (ascii "dddd-dd-ddTdd:dd:dd") (take 19 s) && is_ending (drop 19 s) in
    let day = and_right a (is_day (day_written s)) (and_left (a && is_day (day_written s)) (is_time s) e) in
    rw (day, le-leb _ _ (time_small s (and_right (a && is_day (day_written s)) (is_time s) e)))

-- a date that is read is a real day, and a moment that is read is a right one
pub date_right : (s : List ℕ) (ymd : ℕ) → date_of s ≡ Some ymd → is_day ymd ≡ true
unfolding date_of
date_right s ymd e =
    by_test (shape (ascii "dddd-dd-dd") s && is_day (day_written s))
    (λ p. let f : Some (day_written s) ≡ Some ymd = rw p at e in cc (and_right (shape (ascii "dddd-dd-dd") s) (is_day (day_written s)) p))
    (λ p. let f : None ≡ Some ymd = rw p at e in cc)

pub moment_right : (s : List ℕ) (t : Moment) → when_of s ≡ Some t → is_moment t.day t.micro ≡ true
unfolding when_of
moment_right s t e =
    by_test (is_moment_cell s)
    (λ p.
    let f : Some (record { day = day_written s; micro = micro_written s }) ≡ Some t = rw p at e in
    let g : record { day = day_written s; micro = micro_written s } ≡ t = cc in
    subst (λ (m : Moment). is_moment m.day m.micro ≡ true) g (cell_right s p))
    (λ p. let f : None ≡ Some t = rw p at e in cc)

right : (t : Moment) → is_moment t.day t.micro ≡ true → (is_day t.day ≡ true) × (t.micro < 86400000000)
unfolding is_moment
right t e = (
  and_left (is_day t.day) (leb t.micro 86399999999) e,
  omega (arith, leb-true t.micro 86399999999 (and_right (is_day t.day) (leb t.micro 86399999999) e)),
)

-- of two right moments one is before the other exactly if fewer microseconds have elapsed
pub before_elapsed : (a b : Moment) → is_moment a.day a.micro ≡ true → is_moment b.day b.micro ≡ true
    → is_before a b ≡ ltb (elapsed a) (elapsed b)
before_elapsed a b e f =
    let ra = right a e in
    let rb = right b f in
    by_test (ltb a.day b.day)
    (λ p. rw (p, lt-ltb (elapsed a) (elapsed b) (omega (arith, (day_order a.day b.day ra.0 rb.0).0 (ltb-true a.day b.day p)))))
    (λ p.
    by_test (ltb b.day a.day)
    (λ q.
    let later : b.day < a.day = ltb-true b.day a.day q in
    rw (p, ne_eqb a.day b.day (λ g. omega arith), le-ltb (elapsed a) (elapsed b) (omega (arith, (day_order b.day a.day rb.0 ra.0).0 later))))
    (λ q.
    let same : a.day ≡ b.day = omega (arith, ltb-false a.day b.day p, ltb-false b.day a.day q) in
    by_test (ltb a.micro b.micro)
    (λ r. rw (p, eq-eqb a.day b.day same, r, lt-ltb (elapsed a) (elapsed b) (omega (arith, ap day_number same, ltb-true a.micro b.micro r))))
    (λ r. rw (p, eq-eqb a.day b.day same, r, le-ltb (elapsed a) (elapsed b) (omega (arith, ap day_number same, ltb-false a.micro b.micro r))))))
