-- Days and their numbers: each day is one more than the day before it, and the later day has the greater number.
use Prim.Native.Nat.{ℕ, ◌+◌, ◌<◌}
use mathlib.Core.Path.{◌≡◌, refl}
use mathlib.Core.Bool.{true, cond}
use native.Mathlib.Omega.{arith}
use lib.Dec.{ltb}
use borrow.Author.Tests.{ltb-true, ltb-false}
use Rattle.calendar.specs.Day.{year_of, month_of, day_of, day_at, month_length, is_day}
use Rattle.text.proofs.Bools.{by_test}
use Rattle.calendar.proofs.DayNumber.{sum, day_number}
use Rattle.calendar.proofs.Real.{real, whole, follows, rises, falls, next_in_month, next_month, next_year}

-- the next day of the month, or else the first of the next month, or else 1 January of the next year
unfoldable pub next : ℕ → ℕ
next ymd =
    cond (ltb (day_of ymd) (month_length (year_of ymd) (month_of ymd))) (day_at (year_of ymd) (month_of ymd) (day_of ymd + 1))
    (cond (ltb (month_of ymd) 12) (day_at (year_of ymd) (month_of ymd + 1) 1)
    (day_at (year_of ymd + 1) 1 1))

-- 1 January 1900 is day 1
pub first_day : day_number 19000101 ≡ 1
unfolding day_number is_day month_length sum
first_day = refl

-- after every real day but the last comes a real day, whose number is one more
pub next_day : (ymd : ℕ) → is_day ymd ≡ true → ymd < 99991231 → (is_day (next ymd) ≡ true) × (day_number (next ymd) ≡ day_number ymd + 1)
unfolding next
next_day ymd e h =
    by_test (ltb (day_of ymd) (month_length (year_of ymd) (month_of ymd)))
    (λ p. rw p (follows ymd e (next_in_month (real ymd e) (ltb-true _ _ p))))
    (λ p.
    by_test (ltb (month_of ymd) 12)
    (λ q. rw (p, q) (follows ymd e (next_month (real ymd e) (ltb-false _ _ p) (ltb-true _ _ q))))
    (λ q. rw (p, q) (follows ymd e (next_year (real ymd e) (ltb-false _ _ p) (ltb-false _ _ q) (rw (whole ymd) at h)))))

-- of two real days the earlier has the smaller number, and only the earlier
pub day_order : (a b : ℕ) → is_day a ≡ true → is_day b ≡ true → (a < b → day_number a < day_number b) × (day_number a < day_number b → a < b)
day_order a b e f = (rises a b e f, λ h. by_test (ltb a b) (ltb-true a b) (λ p. absurd (omega (arith, falls a b e f (ltb-false a b p)))))
