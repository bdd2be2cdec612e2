-- LEI, ISIN and MIC.
use Rattle.std.specs.Prelude.{ℕ, ◌+◌, ◌*◌, ◌/◌, ◌%◌, Bool, false, cond, not, ◌&&◌, List, [], ◌∷◌, eqb}
use Rattle.text.specs.Ascii.{ascii}
use Rattle.text.specs.Shape.{shape}
use Rattle.ident.specs.Written.{written_digits, written}

-- 18 of A-Z 0-9, then 2 digits
abbrev pub lei_shaped : List ℕ → Bool
lei_shaped s = shape (ascii "nnnnnnnnnnnnnnnnnndd") s

-- remainder 1 by 97 (ISO 17442)
abbrev pub lei_right : List ℕ → Bool
lei_right s = eqb (written s % 97) 1

-- 4 of A-Z 0-9
abbrev pub mic_shaped : List ℕ → Bool
mic_shaped s = shape (ascii "nnnn") s

-- 2 letters, 9 of A-Z 0-9, digit
abbrev pub isin_shaped : List ℕ → Bool
isin_shaped s = shape (ascii "uunnnnnnnnnd") s

-- the digits of twice a digit, added
abbrev pub doubled : ℕ → ℕ
doubled d = 2 * d / 10 + 2 * d % 10

-- an odd number of digits
unfoldable pub oddly : List ℕ → Bool
oddly [] = false
oddly (d ∷ ds) = not (oddly ds)

-- double-add-double (ISO 6166): from the right, every second digit is doubled, beginning with the one before the last;
-- all are added, a product by its digits
unfoldable pub double_add_double : List ℕ → ℕ
double_add_double [] = 0
double_add_double (d ∷ ds) = cond (oddly ds) (doubled d) d + double_add_double ds

-- the sum, check digit included, is a multiple of 10
abbrev pub isin_right : List ℕ → Bool
isin_right s = isin_shaped s && eqb (double_add_double (written_digits s) % 10) 0
