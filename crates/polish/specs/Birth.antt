-- The birth day in a PESEL: yymmdd, the century held in the month.
use Rattle.std.specs.Prelude.{ℕ, ◌+◌, ◌%◌, Bool, cond, ◌&&◌, List, leb, drop}
use Rattle.text.specs.Number.{two_digits}
use Rattle.calendar.specs.Day.{day_at, is_day_of}

-- n is one of the numbers from `first` to `last`
abbrev pub within : ℕ → ℕ → ℕ → Bool
within first last n = leb first n && leb n last

-- the century by the month's two digits; 0 where they name no month
unfoldable pub century : ℕ → ℕ
century m =
    cond (within 81 92 m) 1800
    (cond (within 1 12 m) 1900
    (cond (within 21 32 m) 2000
    (cond (within 41 52 m) 2100
    (cond (within 61 72 m) 2200 0))))

-- the months of each century begin twenty after those of another
abbrev pub day_by : ℕ → ℕ → ℕ → ℕ
day_by y m d = day_at (century m + y) (m % 20) d

unfoldable pub birth_day : List ℕ → ℕ
birth_day s = day_by (two_digits s) (two_digits (drop 2 s)) (two_digits (drop 4 s))

-- a real day of 1800 to 2299
unfoldable pub is_birth : List ℕ → Bool
is_birth s = is_day_of 1800 2299 (birth_day s)
