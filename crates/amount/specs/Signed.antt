-- An amount that may open with one + or -, which is not counted.
use Rattle.std.specs.Prelude.{ℕ, neg_ℤ, Bool, cond, ◌||◌, List, drop, Option, Some, None}
use Rattle.text.specs.Ascii.{ascii}
use Rattle.text.specs.Word.{starts_with}
use Rattle.amount.specs.declared.Decimal.{Decimal}
use Rattle.amount.specs.Decimal.{is_decimal, value_of}

unfoldable pub behind_sign : List ℕ → List ℕ
behind_sign s = cond (starts_with (ascii "+") s || starts_with (ascii "-") s) (drop 1 s) s

unfoldable pub is_signed : ℕ → ℕ → ℕ → List ℕ → Bool
is_signed n f m s = is_decimal n f m (behind_sign s)

-- below zero for a minus; zero has no sign
abbrev pub negated : Decimal → Decimal
negated d = record { mantissa = neg_ℤ d.mantissa; places = d.places }

unfoldable pub signed_value_of : List ℕ → Decimal
signed_value_of s = cond (starts_with (ascii "-") s) (negated (value_of (behind_sign s))) (value_of (behind_sign s))

-- cell 38 with f = 5, and what follows MV: with f = 13: D(18, f, 19) behind the sign, with its value
unfoldable pub signed_of : ℕ → List ℕ → Option Decimal
signed_of f s = cond (is_signed 18 f 19 s) (Some (signed_value_of s)) None

-- 2 is an amount, the one kind there is, as the kinds of prices and quantities are numbered from 2 on; 0 is none
abbrev pub signed_kind : Option Decimal → ℕ
signed_kind (Some d) = 2
signed_kind None = 0
