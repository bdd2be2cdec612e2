-- The dates of cells 11, 15, 20, 24, 54 and 55.
use Rattle.std.specs.Prelude.{ℕ, Bool, cond, ◌&&◌, List, drop, Option, Some, None, is_some}
use Rattle.text.specs.Ascii.{ascii}
use Rattle.text.specs.Shape.{shape}
use Rattle.text.specs.Number.{two_digits, four_digits}
use Rattle.calendar.specs.Day.{day_at, is_day}

-- the day that the digits of yyyy-mm-dd write
unfoldable pub day_written : List ℕ → ℕ
day_written s = day_at (four_digits s) (two_digits (drop 5 s)) (two_digits (drop 8 s))

-- yyyy-mm-dd, a real day of the years 1900 to 9999
unfoldable pub date_of : List ℕ → Option ℕ
date_of s = cond (shape (ascii "dddd-dd-dd") s && is_day (day_written s)) (Some (day_written s)) None

-- the cell writes a day
abbrev pub is_date : Option ℕ → Bool
is_date date = is_some date
