-- The number of a decimal as a signed one, and its negation: exact, since 10 ^ 18 is below 2 ^ 63.
use mathlib.Core.Path.{◌≡◌, ◌∙◌, refl, sym, ap}
use mathlib.Core.Bool.{Bool, true, false, cond}
use mathlib.Core.List.{List, ◌++◌}
use Prim.Native.Nat.{ℕ, zero, suc, ◌^◌, ◌≤◌, ◌<◌}
use native.Mathlib.Omega.{arith}
use lib.Dec.{lit<}
use lib.IntN.{pos, neg_ℤ, ◌-ℤ◌, +ℤ_idl}
use lib.ListN.{length, length-append}
use mir.Syntax.{w8, w64}
use mir.Val.{Fits, SFits, to_z, of_z}
use mir.Facts.{to_z-of_z, to_z_pos}
use Rattle.std.proofs.Common.{Option, Some, None}
use Rattle.text.specs.Ascii.{ascii}
use Rattle.text.specs.Word.{starts_with}
use Rattle.text.specs.Number.{number_of}
use Rattle.amount.specs.declared.Decimal.{Decimal}
use Rattle.amount.specs.Decimal.{whole, decimals, digits_of, fewest_decimals, value_of, is_decimal}
use Rattle.amount.specs.Told.{value_in}
use Rattle.amount.specs.Signed.{behind_sign, is_signed, negated, signed_value_of, signed_of}
use Rattle.amount.proofs.DecimalLaws.{number_below}
use Rattle.amount.proofs.LastZeros.{no_longer}

module _ (s : List ℕ) where
  pub number_fits : {n : ℕ} → n ≡ number_of (whole s ++ fewest_decimals s) → SFits w64 (pos n)
  number_fits e = rw e (record { sfits = omega (arith, number_below (whole s ++ fewest_decimals s)) })

  pub places_fit : {t : List ℕ} → t ≡ fewest_decimals s → length (digits_of s) ≤ 18 → Fits w8 (length t)
  unfolding digits_of fewest_decimals
  places_fit e h = rw e (record { fits = omega (arith, length-append (whole s) (decimals s), no_longer (decimals s)) })

  pub value_is : {n : ℕ} {t : List ℕ} → n ≡ number_of (whole s ++ fewest_decimals s) → t ≡ fewest_decimals s → record { mantissa = to_z w64 n; places = length t } ≡ value_of s
  unfolding value_of
  value_is e f = rw (e, f) (λ i. record { mantissa = to_z_pos w64 (number_fits refl).sfits i; places = length (fewest_decimals s) })

  module _ {d : Decimal} (is : d ≡ value_of s) where
    mantissa_fits : SFits w64 d.mantissa
    unfolding value_of
    mantissa_fits = rw is (number_fits refl)

    minus_fits : SFits w64 (neg_ℤ d.mantissa)
    unfolding value_of
    minus_fits = rw is (go (number_of (whole s ++ fewest_decimals s)) (number_below (whole s ++ fewest_decimals s)))
      where
        go : (n : ℕ) → n < 10 ^ 18 → SFits w64 (neg_ℤ (pos n))
        go zero h = record { sfits = lit< tt }
        go (suc n) h = record { sfits = omega arith }

    pub negation_fits : SFits w64 (pos 0 -ℤ to_z w64 (of_z w64 d.mantissa))
    negation_fits = rw (to_z-of_z mantissa_fits, +ℤ_idl) minus_fits

    pub negation_is : to_z w64 (of_z w64 (pos 0 -ℤ to_z w64 (of_z w64 d.mantissa))) ≡ neg_ℤ d.mantissa
    negation_is = rw (to_z-of_z mantissa_fits, +ℤ_idl) (to_z-of_z minus_fits)

-- a signed amount, by what is read behind the sign
module _ (f : ℕ) (s : List ℕ) {t : List ℕ} (behind : t ≡ behind_sign s) {r : Option Decimal} (told : r ≡ value_in 18 f 19 t) where
  read : r ≡ value_in 18 f 19 (behind_sign s)
  read = rw behind at told

  pub no_amount : r ≡ None → None ≡ signed_of f s
  unfolding signed_of is_signed
  no_amount e = go (is_decimal 18 f 19 (behind_sign s)) (sym read ∙ e)
    where
      go : (b : Bool) → cond b (Some (value_of (behind_sign s))) None ≡ None → None ≡ cond b (Some (signed_value_of s)) None
      go true e = cc
      go false e = refl

  module _ {d : Decimal} (some : r ≡ Some d) where
    amount_is : (is_decimal 18 f 19 (behind_sign s) ≡ true) × (d ≡ value_of (behind_sign s))
    amount_is = go (is_decimal 18 f 19 (behind_sign s)) (sym read ∙ some)
      where
        go : (b : Bool) → cond b (Some (value_of (behind_sign s))) None ≡ Some d → (b ≡ true) × (d ≡ value_of (behind_sign s))
        go true e = (refl, cc)
        go false e = cc

    pub minus_room : SFits w64 (pos 0 -ℤ to_z w64 (of_z w64 d.mantissa))
    minus_room = negation_fits (behind_sign s) amount_is.1

    pub below_zero : {b : Bool} → b ≡ starts_with (ascii "-") s → b ≡ true → Some (record { mantissa = to_z w64 (of_z w64 (pos 0 -ℤ to_z w64 (of_z w64 d.mantissa))); places = d.places }) ≡ signed_of f s
    unfolding signed_of is_signed signed_value_of
    below_zero minus e =
        rw (amount_is.0, sym minus, e)
        (ap Some ((λ i. record { mantissa = negation_is (behind_sign s) amount_is.1 i; places = d.places }) ∙ ap negated amount_is.1))

    pub not_below : {b : Bool} → b ≡ starts_with (ascii "-") s → b ≡ false → Some d ≡ signed_of f s
    unfolding signed_of is_signed signed_value_of
    not_below minus e = rw (amount_is.0, sym minus, e) (ap Some amount_is.1)
