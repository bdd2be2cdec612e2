-- Days counted from 1 January 1900 on: by this count the laws say what it is to follow and to be before. No contract names it.
use Prim.Native.Nat.{ℕ, zero, suc, ◌+◌, ◌-◌}
use mathlib.Core.Bool.{cond}
use Rattle.calendar.specs.Day.{year_of, month_of, day_of, leap, month_length, is_day}

unfoldable pub year_length : ℕ → ℕ
year_length y = cond (leap y) 366 365

-- f 0 + f 1 + .., n of them
unfoldable pub sum : (ℕ → ℕ) → ℕ → ℕ
sum f zero = 0
sum f (suc n) = sum f n + f n

-- the sum of f over the numbers from `first` on that are before `end`
abbrev pub total : (ℕ → ℕ) → ℕ → ℕ → ℕ
total f first end = sum (λ k. f (first + k)) (end - first)

-- the days of the years from 1900 on that are before y, those of the months of y before m, and d
abbrev pub days_to : ℕ → ℕ → ℕ → ℕ
days_to y m d = total year_length 1900 y + total (month_length y) 1 m + d

-- 1 January 1900 is 1; what is no real day is 0
unfoldable pub day_number : ℕ → ℕ
day_number ymd = cond (is_day ymd) (days_to (year_of ymd) (month_of ymd) (day_of ymd)) 0
