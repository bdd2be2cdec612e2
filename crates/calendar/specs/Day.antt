-- The Gregorian calendar. A day is the number yyyymmdd.
use Rattle.std.specs.Prelude.{ℕ, ◌+◌, ◌-◌, ◌*◌, ◌/◌, ◌%◌, Bool, cond, not, ◌&&◌, ◌||◌, eqb, leb}

abbrev pub year_of : ℕ → ℕ
year_of ymd = ymd / 10000

abbrev pub month_of : ℕ → ℕ
month_of ymd = ymd / 100 % 100

abbrev pub day_of : ℕ → ℕ
day_of ymd = ymd % 100

abbrev pub day_at : ℕ → ℕ → ℕ → ℕ
day_at y m d = y * 10000 + m * 100 + d

-- divisible by 4, and not by 100 unless by 400
unfoldable pub leap : ℕ → Bool
leap y = eqb (y % 4) 0 && (not (eqb (y % 100) 0) || eqb (y % 400) 0)

-- February has 28 days or 29; April, June, September and November 30; the others 31
unfoldable pub month_length : ℕ → ℕ → ℕ
month_length y m =
    cond (eqb m 2) (cond (leap y) 29 28)
    (cond (eqb m 4 || eqb m 6 || eqb m 9 || eqb m 11) 30 31)

-- a real day of the years `first` to `last`
abbrev pub is_day_of : ℕ → ℕ → ℕ → Bool
is_day_of first last ymd =
    leb first (year_of ymd)
    && leb (year_of ymd) last
    && leb 1 (month_of ymd)
    && leb (month_of ymd) 12
    && leb 1 (day_of ymd)
    && leb (day_of ymd) (month_length (year_of ymd) (month_of ymd))

-- of the years 1900 to 9999, as cells and the submission moment have them
unfoldable pub is_day : ℕ → Bool
is_day ymd = is_day_of 1900 9999 ymd

-- 29 February
abbrev pub leap_day : ℕ → Bool
leap_day ymd = eqb (month_of ymd) 2 && eqb (day_of ymd) 29

-- five years before a day: the same month and day of that year, for 29 February its 28 February
unfoldable pub five_years_before : ℕ → ℕ
five_years_before ymd = day_at (year_of ymd - 5) (month_of ymd) (cond (leap_day ymd) 28 (day_of ymd))
