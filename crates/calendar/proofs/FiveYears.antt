-- Five years before a day: a real day, never earlier for a later day, and the last day from which five years have passed.
use Prim.Native.Nat.{ℕ, ◌+◌, ◌-◌, ◌*◌, ◌%◌, ◌≤◌, ◌<◌}
use mathlib.Core.Path.{◌≡◌, refl, ap}
use mathlib.Core.Bool.{true, false, cond, not, ◌||◌}
use native.Mathlib.Omega.{arith}
use lib.Dec.{eqb, ltb}
use borrow.Author.Tests.{eqb-true, eqb-false, ltb-true, ltb-false, ne_eqb}
use Rattle.text.proofs.Bools.{and_left, and_right, by_test}
use Rattle.calendar.specs.Day.{year_of, month_of, day_of, day_at, leap, month_length, is_day, leap_day, five_years_before}
use Rattle.calendar.proofs.Real.{Real, real, is_day_at}
use Rattle.calendar.proofs.Sums.{month_small}

-- a leap year can be divided by 4, and so the fifth year before it is none
pub leap_by_4 : (y : ℕ) → leap y ≡ true → y % 4 ≡ 0
unfolding leap
leap_by_4 y e = eqb-true (y % 4) 0 (and_left (eqb (y % 4) 0) (not (eqb (y % 100) 0) || eqb (y % 400) 0) e)

-- only February's length depends on the year
february : (y : ℕ) → month_length y 2 ≡ cond (leap y) 29 28
unfolding month_length
february y = refl

pub others_alike : (y z m : ℕ) → (m ≡ 2 → ⊥) → month_length y m ≡ month_length z m
unfolding month_length
others_alike y z m h = rw (ne_eqb m 2 h)

module _ (s : ℕ) where
  pub in_february : leap_day s ≡ true → month_of s ≡ 2
  in_february e = eqb-true (month_of s) 2 (and_left (eqb (month_of s) 2) (eqb (day_of s) 29) e)

  pub on_29 : leap_day s ≡ true → day_of s ≡ 29
  on_29 e = eqb-true (day_of s) 29 (and_right (eqb (month_of s) 2) (eqb (day_of s) 29) e)

  to_28 : leap_day s ≡ true → five_years_before s ≡ day_at (year_of s - 5) (month_of s) 28
  unfolding five_years_before
  to_28 e = rw e

  to_same : leap_day s ≡ false → five_years_before s ≡ day_at (year_of s - 5) (month_of s) (day_of s)
  unfolding five_years_before
  to_same e = rw e

  -- as the code has it, by the digits of month and day together
  pub from_29 : s % 10000 ≡ 229 → (year_of s - 5) * 10000 + 228 ≡ five_years_before s
  from_29 e =
      let m : month_of s ≡ 2 = omega arith in
      let d : day_of s ≡ 29 = omega arith in
      let both : leap_day s ≡ true = rw (m, d) in
      omega (arith, to_28 both)

  pub from_other : (s % 10000 ≡ 229 → ⊥) → (year_of s - 5) * 10000 + s % 10000 ≡ five_years_before s
  from_other h =
      by_test (leap_day s)
      (λ p. absurd (h (omega (arith, in_february p, on_29 p))))
      (λ p. omega (arith, to_same p))

  -- the same of a year that a test has set five back
  pub back_29 : (earlier : ℕ) → earlier ≡ year_of s - 5 → s % 10000 ≡ 229 → earlier * 10000 + 228 ≡ five_years_before s
  back_29 earlier e h = rw e (from_29 h)

  pub back_other : (earlier : ℕ) → earlier ≡ year_of s - 5 → (s % 10000 ≡ 229 → ⊥) → earlier * 10000 + s % 10000 ≡ five_years_before s
  back_other earlier e h = rw e (from_other h)

  -- five years are 50,000 in yyyymmdd, and a day more from 29 February
  years_and_day : 1900 ≤ year_of s → leap_day s ≡ true → five_years_before s + 50001 ≡ s
  years_and_day h e = omega (arith, to_28 e, on_29 e)

  years_alone : 1900 ≤ year_of s → leap_day s ≡ false → five_years_before s + 50000 ≡ s
  years_alone h e = omega (arith, to_same e)

  within : 1900 ≤ year_of s → (five_years_before s + 50000 ≤ s) × (s ≤ five_years_before s + 50001)
  within h =
      by_test (leap_day s)
      (λ p. omega (arith, years_and_day h p))
      (λ p. omega (arith, years_alone h p))

  pub leap_year : is_day s ≡ true → month_of s ≡ 2 → day_of s ≡ 29 → leap (year_of s) ≡ true
  leap_year r m d =
      by_test (leap (year_of s))
      (λ p. p)
      (λ p.
      let short : month_length (year_of s) 2 ≡ 28 = rw p at (february (year_of s)) in
      absurd (omega (arith, (real s r).day_to, ap (month_length (year_of s)) m)))

  -- any other day fits into its month in every year
  still_fits : is_day s ≡ true → leap_day s ≡ false → (y : ℕ) → day_of s ≤ month_length y (month_of s)
  still_fits r e y =
      by_test (eqb (month_of s) 2)
      (λ p.
      let other : eqb (day_of s) 29 ≡ false = rw p at e in
      omega (arith, (real s r).day_to, february_most, ap (month_length (year_of s)) (eqb-true (month_of s) 2 p), eqb-false (day_of s) 29 other, month_small y (month_of s)))
      (λ p. rw (others_alike y (year_of s) (month_of s) (eqb-false (month_of s) 2 p)) (real s r).day_to)
    where
      february_most : month_length (year_of s) 2 ≤ 29
      february_most = by_test (leap (year_of s)) (λ p. rw (february (year_of s), p) (omega arith)) (λ p. rw (february (year_of s), p) (omega arith))

  -- from 1905 on it is a real day
  pub parts_real : is_day s ≡ true → 1905 ≤ year_of s → Real (year_of s - 5) (month_of s) (cond (leap_day s) 28 (day_of s))
  parts_real r h =
      let d = real s r in
      record {
        year_from = omega arith;
        year_to = omega (arith, d.year_to);
        month_from = d.month_from;
        month_to = d.month_to;
        day_from = by_test (leap_day s) (λ p. rw p (omega arith)) (λ p. rw p d.day_from);
        day_to = by_test (leap_day s) (λ p. rw p (month_small (year_of s - 5) (month_of s)).0) (λ p. rw p (still_fits r p (year_of s - 5)));
      }

  pub five_years_real : is_day s ≡ true → 1905 ≤ year_of s → is_day (five_years_before s) ≡ true
  unfolding five_years_before
  five_years_real r h = is_day_at (parts_real r h)

-- of two days the later has no earlier one
pub five_years_order : (a b : ℕ) → is_day a ≡ true → is_day b ≡ true → a ≤ b → five_years_before a ≤ five_years_before b
five_years_order a b r q h =
    by_test (ltb a b)
    (λ p. omega (arith, ltb-true a b p, within a (real a r).year_from, within b (real b q).year_from))
    (λ p. let e : a ≡ b = omega (arith, ltb-false a b p) in omega (arith, ap five_years_before e))

-- it is the last day from which five years have passed on s
module _ (t s : ℕ) (r : is_day t ≡ true) (q : is_day s ≡ true) where
  pub five_years_past : t ≤ five_years_before s → t + 50000 ≤ s
  five_years_past h = omega (arith, within s (real s q).year_from)

  pub five_years_last : t + 50000 ≤ s → t ≤ five_years_before s
  five_years_last h =
      by_test (leap_day s)
      (λ p.
      by_test (eqb (t + 50000) s)
      (λ e. absurd (no_leap_day_before e p))
      (λ e. omega (arith, years_and_day s (real s q).year_from p, eqb-false (t + 50000) s e)))
      (λ p. omega (arith, years_alone s (real s q).year_from p))
    where
      no_leap_day_before : eqb (t + 50000) s ≡ true → leap_day s ≡ true → ⊥
      no_leap_day_before e p =
          let same : t + 50000 ≡ s = eqb-true (t + 50000) s e in
          let before = leap_by_4 (year_of t) (leap_year t r (omega (arith, in_february s p)) (omega (arith, on_29 s p))) in
          let after = leap_by_4 (year_of s) (leap_year s q (in_february s p) (on_29 s p)) in
          omega arith

  -- before 1905 no real day is before it
  pub five_years_none : year_of s < 1905 → five_years_before s < t
  five_years_none h = omega (arith, within s (real s q).year_from, (real t r).year_from)
