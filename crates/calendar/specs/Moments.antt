-- The moment of cell 28, and the submission moment.
use Rattle.std.specs.Prelude.{ℕ, ◌+◌, ◌*◌, Bool, cond, ◌&&◌, ◌||◌, List, eqb, leb, ltb, take, drop, Option, Some, None, is_some}
use Rattle.text.specs.Ascii.{ascii}
use Rattle.text.specs.Shape.{shape}
use Rattle.text.specs.Number.{two_digits, four_digits}
use Rattle.calendar.specs.Day.{is_day}
use Rattle.calendar.specs.Dates.{day_written}
use Rattle.calendar.specs.declared.moments.Moment.{Moment}

-- of yyyy-mm-ddThh:mm:ss
abbrev pub hour_of : List ℕ → ℕ
hour_of s = two_digits (drop 11 s)

abbrev pub minute_of : List ℕ → ℕ
minute_of s = two_digits (drop 14 s)

abbrev pub second_of : List ℕ → ℕ
second_of s = two_digits (drop 17 s)

-- up to 23:59:59
unfoldable pub is_time : List ℕ → Bool
is_time s = leb (hour_of s) 23 && leb (minute_of s) 59 && leb (second_of s) 59

-- what follows the seconds: a point and 1 to 6 digits, or nothing, and Z
unfoldable pub is_ending : List ℕ → Bool
is_ending t =
    shape (ascii "Z") t
    || shape (ascii ".dZ") t
    || shape (ascii ".ddZ") t
    || shape (ascii ".dddZ") t
    || shape (ascii ".ddddZ") t
    || shape (ascii ".dddddZ") t
    || shape (ascii ".ddddddZ") t

-- the six digits behind the point; one that is missing is zero, since neither Z nor what is past the end is a digit
abbrev pub fraction_of : List ℕ → ℕ
fraction_of s = four_digits (drop 20 s) * 100 + two_digits (drop 24 s)

-- the microsecond of the day
unfoldable pub micro_written : List ℕ → ℕ
micro_written s = ((hour_of s * 60 + minute_of s) * 60 + second_of s) * 1000000 + fraction_of s

-- a real day, T, hh:mm:ss, and the ending
unfoldable pub is_moment_cell : List ℕ → Bool
is_moment_cell s = shape (ascii "dddd-dd-ddTdd:dd:dd") (take 19 s) && is_ending (drop 19 s) && is_day (day_written s) && is_time s

unfoldable pub when_of : List ℕ → Option Moment
when_of s = cond (is_moment_cell s) (Some (record { day = day_written s; micro = micro_written s })) None

-- the cell writes a moment
abbrev pub is_when : Option Moment → Bool
is_when when = is_some when

-- a submission moment is right: a real day, and a microsecond of it
unfoldable pub is_moment : ℕ → ℕ → Bool
is_moment day micro = is_day day && leb micro 86399999999

-- on an earlier day, or earlier on the same
abbrev pub is_before : Moment → Moment → Bool
is_before a b = ltb a.day b.day || (eqb a.day b.day && ltb a.micro b.micro)
