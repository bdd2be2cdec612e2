-- What identifies a person, after the colon of CONCAT, CCPT and NIDN.
use Rattle.std.specs.Prelude.{ℕ, Bool, cond, ◌&&◌, List, [], leb, length, take, drop}
use Rattle.text.specs.Ascii.{ascii}
use Rattle.text.specs.Class.{all_of, run_of}
use Rattle.text.specs.declared.classes.Class.{Class}
use Rattle.text.specs.declared.classes.Class.TheVariants.{Capital, CapitalDigit, CapitalDigitMinus, CapitalDigitSign}
use Rattle.text.specs.Number.{eight_digits}
use Rattle.text.specs.Shape.{shape}
use Rattle.text.specs.Word.{starts_with}

-- CONCAT: 2 letters, 8 digits, letter, 4 of A-Z #, letter, 4 of A-Z #
abbrev pub concat_shaped : List ℕ → Bool
concat_shaped s = shape (ascii "uudddddddduhhhhuhhhh") s

-- after the two letters: A-Z 0-9, also + and - after FI, also - after LV
unfoldable pub after_country : List ℕ → Class
after_country s = cond (starts_with (ascii "FI") s) CapitalDigitSign (cond (starts_with (ascii "LV") s) CapitalDigitMinus CapitalDigit)

-- CCPT and NIDN: 3 to 35 long, two letters, then those
unfoldable pub number_shaped : List ℕ → Bool
number_shaped s = leb 3 (length s) && leb (length s) 35 && all_of Capital (take 2 s) && all_of (after_country s) (drop 2 s)

-- the first two characters, if both capitals; else nothing
unfoldable pub country_of : List ℕ → List ℕ
country_of s = cond (run_of Capital 2 2 (take 2 s)) (take 2 s) []

-- the 8 digits of a CONCAT
abbrev pub concat_day : List ℕ → ℕ
concat_day s = eight_digits (drop 2 s)
