-- A signed amount is malformed exactly where it is not D(18, f, 19) behind a sign, and its value at zero and at both ends.
use mathlib.Core.Path.{◌≡◌, refl}
use mathlib.Core.Bool.{Bool, true, false, not, cond}
use mathlib.Core.List.{List}
use Prim.Native.Nat.{ℕ}
use lib.Dec.{eqb}
use lib.IntN.{pos, negsuc}
use Rattle.text.specs.Ascii.{ascii}
use Rattle.text.specs.Class.{all_of}
use Rattle.text.specs.Number.{digit_of, numeral, number_of}
use Rattle.text.specs.Word.{starts_with}
use Rattle.std.proofs.Common.{Some, None}
use Rattle.amount.specs.Decimal.{point_at, whole, decimals, is_decimal, without_last_zeros, fewest_decimals, value_of}
use Rattle.amount.specs.Signed.{behind_sign, is_signed, signed_value_of, signed_of, signed_kind}

pub signed_or_malformed : (f : ℕ) (s : List ℕ) → not (eqb (signed_kind (signed_of f s)) 0) ≡ is_signed 18 f 19 s
unfolding signed_of
signed_or_malformed f s = go (is_signed 18 f 19 s)
  where
    go : (t : Bool) → not (eqb (signed_kind (cond t (Some (signed_value_of s)) None)) 0) ≡ t
    go true = refl
    go false = refl

-- the paper's example
pub half_more : signed_of 5 (ascii "1.50") ≡ signed_of 5 (ascii "1.5")
unfolding all_of starts_with digit_of numeral number_of point_at whole decimals is_decimal without_last_zeros fewest_decimals value_of behind_sign is_signed signed_value_of signed_of
half_more = refl

-- zero has no sign and no places, however it is written
pub minus_zero : signed_of 5 (ascii "-0.00") ≡ Some (record { mantissa = pos 0; places = 0 })
unfolding all_of starts_with digit_of numeral number_of point_at whole decimals is_decimal without_last_zeros fewest_decimals value_of behind_sign is_signed signed_value_of signed_of
minus_zero = refl

-- 18 digits are the most there are, with either sign
pub highest : signed_of 5 (ascii "+999999999999999999") ≡ Some (record { mantissa = pos 999999999999999999; places = 0 })
unfolding all_of starts_with digit_of numeral number_of point_at whole decimals is_decimal without_last_zeros fewest_decimals value_of behind_sign is_signed signed_value_of signed_of
highest = refl

pub lowest : signed_of 5 (ascii "-999999999999999999") ≡ Some (record { mantissa = negsuc 999999999999999998; places = 0 })
unfolding all_of starts_with digit_of numeral number_of point_at whole decimals is_decimal without_last_zeros fewest_decimals value_of behind_sign is_signed signed_value_of signed_of
lowest = refl
