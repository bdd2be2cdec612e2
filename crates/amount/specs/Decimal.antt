-- D(n, f, m): 1 to n digits; or, at most m long, 1 to n digits, a point, 0 to f digits.
use Rattle.std.specs.Prelude.{ℕ, suc, ◌+◌, pos, nat_abs, Bool, cond, ◌&&◌, ◌||◌, List, [], ◌∷◌, ◌++◌, leb, eqb, length, take, drop}
use Rattle.text.specs.declared.classes.Class.TheVariants.{Digit}
use Rattle.text.specs.Class.{is, run_of}
use Rattle.text.specs.Number.{number_of}
use Rattle.text.specs.Word.{blank, starts_with}
use Rattle.amount.specs.declared.Decimal.{Decimal}

-- the place of the first point, or the length where there is none
unfoldable pub point_at : List ℕ → ℕ
point_at [] = 0
point_at (b ∷ s) = cond (is "." b) 0 (suc (point_at s))

-- what stands before the point, and what behind it
unfoldable pub whole : List ℕ → List ℕ
whole s = take (point_at s) s

unfoldable pub decimals : List ℕ → List ℕ
decimals s = drop (point_at s + 1) s

unfoldable pub is_decimal : ℕ → ℕ → ℕ → List ℕ → Bool
is_decimal n f m s = run_of Digit 1 n (whole s) && (eqb (length (whole s)) (length s) || (leb (length s) m && run_of Digit 0 f (decimals s)))

-- the digits, the point passed over
unfoldable pub digits_of : List ℕ → List ℕ
digits_of s = whole s ++ decimals s

-- digits without the zeros at their end
unfoldable pub without_last_zeros : List ℕ → List ℕ
without_last_zeros [] = []
without_last_zeros (b ∷ s) = cond (is "0" b && blank (without_last_zeros s)) [] (b ∷ without_last_zeros s)

-- the fewest decimals that lose nothing
unfoldable pub fewest_decimals : List ℕ → List ℕ
fewest_decimals s = without_last_zeros (decimals s)

-- the whole number that the digits w and t write, t behind the point
abbrev pub decimal_of : List ℕ → List ℕ → Decimal
decimal_of w t = record { mantissa = pos (number_of (w ++ t)); places = length t }

unfoldable pub value_of : List ℕ → Decimal
value_of s = decimal_of (whole s) (fewest_decimals s)

abbrev pub is_zero : Decimal → Bool
is_zero d = eqb (nat_abs d.mantissa) 0

-- a kind's word with its colon, then D(n, f, m)
unfoldable pub tagged : List ℕ → ℕ → ℕ → ℕ → List ℕ → Bool
tagged word n f m s = starts_with word s && is_decimal n f m (drop (length word) s)
