-- How many days lie between a day and the day five years before it.
use Prim.Native.Nat.{ℕ, zero, suc, ◌+◌, ◌-◌, ◌/◌, ◌≤◌, ◌<◌}
use mathlib.Core.Path.{◌≡◌, refl}
use mathlib.Core.Bool.{Bool, true, false, cond}
use native.Mathlib.Omega.{arith}
use lib.Dec.{eqb, ltb}
use borrow.Author.Tests.{eqb-true, eqb-false, ltb-true, ltb-false}
use Rattle.text.proofs.Bools.{by_test}
use Rattle.calendar.specs.Day.{year_of, month_of, day_of, leap, month_length, is_day, leap_day, five_years_before}
use Rattle.calendar.proofs.DayNumber.{year_length, sum, total, days_to, day_number}
use Rattle.calendar.proofs.Sums.{total_on}
use Rattle.calendar.proofs.Real.{real, number_is, number_at}
use Rattle.calendar.proofs.FiveYears.{leap_by_4, leap_year, in_february, on_29, others_alike, parts_real}

-- the leap days of a year
abbrev leaps : ℕ → ℕ
leaps y = cond (leap y) 1 0

-- at most every fourth year has one
every_fourth : (y z : ℕ) → z ≡ y + 1 → leaps z + y / 4 ≤ z / 4
every_fourth y z e =
    by_test (leap z)
    (λ p. let f = leap_by_4 z p in rw p (omega arith))
    (λ p. rw p (omega arith))

-- before the next year lie 365 days more, and the leap day
one_more : (y z : ℕ) → z ≡ y + 1 → 1900 ≤ y → total year_length 1900 z ≡ total year_length 1900 y + 365 + leaps y
unfolding year_length
one_more y z e h = rw e (rw (total_on year_length 1900 y h) (by_test (leap y) (λ p. rw p (omega arith)) (λ p. rw p (omega arith))))

-- six years in a row: the days of the five before the last, and how many leap days all of them have
module _ (a b c d e f : ℕ) (ab : b ≡ a + 1) (bc : c ≡ b + 1) (cd : d ≡ c + 1) (de : e ≡ d + 1) (ef : f ≡ e + 1) where
  five_more : 1900 ≤ a → total year_length 1900 f ≡ total year_length 1900 a + 1825 + leaps a + leaps b + leaps c + leaps d + leaps e
  five_more h =
      omega (
        arith,
        one_more a b ab h,
        one_more b c bc (omega arith),
        one_more c d cd (omega arith),
        one_more d e de (omega arith),
        one_more e f ef (omega arith),
      )

  at_most_two : 1 ≤ a → leaps a + leaps b + leaps c + leaps d + leaps e + leaps f ≤ 2
  at_most_two h =
      omega (
        arith,
        every_fourth (a - 1) a (omega arith),
        every_fourth a b ab,
        every_fourth b c bc,
        every_fourth c d cd,
        every_fourth d e de,
        every_fourth e f ef,
      )

-- the days of the months before m: until February they are the same in all years, from March on a leap day may be among them
months_early : (y z m : ℕ) → 1 ≤ m → m ≤ 2 → total (month_length y) 1 m ≡ total (month_length z) 1 m
unfolding sum month_length
months_early y z m a b =
    by_test (eqb m 1)
    (λ p. rw (eqb-true m 1 p))
    (λ p. let e : m ≡ 2 = omega (arith, eqb-false m 1 p) in rw e)

two_months : (y z : ℕ) → sum (λ k. month_length y (1 + k)) 2 + leaps z ≡ sum (λ k. month_length z (1 + k)) 2 + leaps y
unfolding sum month_length
two_months y z = go (leap y) (leap z)
  where
    go : (a b : Bool) → 31 + cond a 29 28 + cond b 1 0 ≡ 31 + cond b 29 28 + cond a 1 0
    go true true = refl
    go true false = refl
    go false true = refl
    go false false = refl

months_from_march : (y z n : ℕ) → sum (λ k. month_length y (1 + k)) (2 + n) + leaps z ≡ sum (λ k. month_length z (1 + k)) (2 + n) + leaps y
unfolding sum
months_from_march y z zero = two_months y z
months_from_march y z (suc n) =
    let e : 2 + suc n ≡ suc (2 + n) = omega arith in
    rw e (omega (arith, months_from_march y z n, others_alike y z (1 + (2 + n)) (λ f. absurd (omega arith))))

months_late : (y z m : ℕ) → 2 < m → total (month_length y) 1 m + leaps z ≡ total (month_length z) 1 m + leaps y
months_late y z m h = let e : m - 1 ≡ 2 + (m - 3) = omega arith in rw e (months_from_march y z (m - 3))

-- the four years between the fifth before one and itself
record Between (y : ℕ) : Type 0 where
  leap_days : ℕ
  years : total year_length 1900 y ≡ total year_length 1900 (y - 5) + 1825 + leaps (y - 5) + leap_days
  few : leaps (y - 5) + leap_days + leaps y ≤ 2

between : (y : ℕ) → 1905 ≤ y → Between y
between y h =
    let s1 : y - 4 ≡ y - 5 + 1 = omega arith in
    let s2 : y - 3 ≡ y - 4 + 1 = omega arith in
    let s3 : y - 2 ≡ y - 3 + 1 = omega arith in
    let s4 : y - 1 ≡ y - 2 + 1 = omega arith in
    let s5 : y ≡ y - 1 + 1 = omega arith in
    let all = five_more (y - 5) (y - 4) (y - 3) (y - 2) (y - 1) y s1 s2 s3 s4 s5 (omega arith) in
    let two = at_most_two (y - 5) (y - 4) (y - 3) (y - 2) (y - 1) y s1 s2 s3 s4 s5 (omega arith) in
    record {
      leap_days = leaps (y - 4) + leaps (y - 3) + leaps (y - 2) + leaps (y - 1);
      years = omega (arith, all);
      few = omega (arith, two);
    }

module _ (s : ℕ) (r : is_day s ≡ true) (h : 1905 ≤ year_of s) where
  before_number : day_number (five_years_before s) ≡ days_to (year_of s - 5) (month_of s) (cond (leap_day s) 28 (day_of s))
  unfolding five_years_before
  before_number = number_at (parts_real s r h)

  -- 1,825 days, and one more for each leap day between, of which there are at most two
  pub five_years_days : (day_number (five_years_before s) + 1825 ≤ day_number s) × (day_number s ≤ day_number (five_years_before s) + 1827)
  five_years_days =
      let b = between (year_of s) h in
      by_test (leap_day s)
      (λ p.
      let before : day_number (five_years_before s) ≡ days_to (year_of s - 5) (month_of s) 28 = rw p at before_number in
      let one : leaps (year_of s) ≡ 1 = rw (leap_year s r (in_february s p) (on_29 s p)) in
      let months = months_early (year_of s) (year_of s - 5) (month_of s) (real s r).month_from (omega (arith, in_february s p)) in
      omega (arith, before, number_is s r, on_29 s p, months, b.years, b.few))
      (λ p.
      let before : day_number (five_years_before s) ≡ days_to (year_of s - 5) (month_of s) (day_of s) = rw p at before_number in
      by_test (ltb 2 (month_of s))
      (λ q.
      let months = months_late (year_of s) (year_of s - 5) (month_of s) (ltb-true 2 (month_of s) q) in
      omega (arith, before, number_is s r, months, b.years, b.few))
      (λ q.
      let months = months_early (year_of s) (year_of s - 5) (month_of s) (real s r).month_from (ltb-false 2 (month_of s) q) in
      omega (arith, before, number_is s r, months, b.years, b.few)))
