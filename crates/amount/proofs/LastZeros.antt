-- Zeros at the end of digits: they are found from the end, and behind a point the digits without them have the same value in the fewest places.
use mathlib.Core.Path.{◌≡◌, ◌∙◌, refl, sym, ap}
use mathlib.Core.Bool.{Bool, true, false, cond, ◌&&◌, true≢false}
use mathlib.Core.List.{List, [], ◌∷◌, ◌++◌}
use mathlib.Core.Logic.{◌⊎◌, inl, inr, ⊎_elim}
use Prim.Native.Nat.{ℕ, suc, ◌+◌, ◌-◌, ◌*◌, ◌^◌, ◌≤◌, ◌<◌}
use native.Mathlib.Nat.{pow-suc, pow-succ', mul_assoc}
use native.Mathlib.Omega.{arith}
use borrow.Author.Tests.{eq-eqb, ne_eqb, eqb-true}
use lib.IntN.{pos}
use lib.ListN.{length, get_or, take, length-append}
use lib.Seq.{take-length, take-suc}
use Rattle.text.specs.declared.classes.Class.TheVariants.{Digit}
use Rattle.text.specs.Class.{in_class, all_of, is}
use Rattle.text.specs.Number.{digit_of, numeral, number_of}
use Rattle.text.specs.Word.{blank}
use Rattle.text.proofs.Bools.{and_left, and_right, by_test}
use Rattle.text.proofs.NumberLaws.{digit_yes, numeral_append, number_short}
use Rattle.amount.specs.Decimal.{without_last_zeros, decimal_of}
use Rattle.amount.proofs.ValueLaws.{SameValue, Short}

-- a zero at the end goes; anything else there stays, with all before it
last_zero : (s : List ℕ) → without_last_zeros (s ++ 48 ∷ []) ≡ without_last_zeros s
unfolding without_last_zeros
last_zero [] = refl
last_zero (b ∷ s) = rw (last_zero s)

last_other : (s : List ℕ) (b : ℕ) → (b ≡ 48 → ⊥) → without_last_zeros (s ++ b ∷ []) ≡ s ++ b ∷ []
unfolding without_last_zeros
last_other [] b e = rw (ne_eqb b 48 e)
last_other (a ∷ s) b e = rw (last_other s b e) (go (is "0" a) (ne_eqb (length (s ++ b ∷ [])) 0 (λ p. omega (arith, p, length-append s (b ∷ [])))))
  where
    go : (t : Bool) → blank (s ++ b ∷ []) ≡ false → cond (t && blank (s ++ b ∷ [])) [] (a ∷ s ++ b ∷ []) ≡ a ∷ s ++ b ∷ []
    go true h = rw h
    go false h = refl

empty : (s : List ℕ) → length s ≡ 0 → s ≡ []
empty [] h = refl
empty (b ∷ s) h = absurd (omega (arith, h))

pub no_longer : (s : List ℕ) → length (without_last_zeros s) ≤ length s
unfolding without_last_zeros
no_longer [] = omega arith
no_longer (b ∷ s) = go (is "0" b && blank (without_last_zeros s)) (no_longer s)
  where
    go : (t : Bool) → length (without_last_zeros s) ≤ length s → length (cond t [] (b ∷ without_last_zeros s)) ≤ suc (length s)
    go true h = omega arith
    go false h = omega arith

-- by the last byte: a zero goes, anything else stays, and where there is none nothing does
module _ (s : List ℕ) where
  at_last : 1 ≤ length s → s ≡ take (length s - 1) s ++ get_or s (length s - 1) 0 ∷ []
  at_last h =
      let e : length s ≡ suc (length s - 1) = omega arith in
      sym (take-length s) ∙ ap (λ (n : ℕ). take n s) e ∙ take-suc s (length s - 1) 0 (omega arith)

  pub zero_goes : 1 ≤ length s → get_or s (length s - 1) 0 ≡ 48 → without_last_zeros (take (length s - 1) s) ≡ without_last_zeros s
  zero_goes h e = sym (last_zero (take (length s - 1) s)) ∙ ap without_last_zeros (ap (λ (b : ℕ). take (length s - 1) s ++ b ∷ []) (sym e) ∙ sym (at_last h))

  pub other_stays : 1 ≤ length s → (get_or s (length s - 1) 0 ≡ 48 → ⊥) → s ≡ without_last_zeros s
  other_stays h e = at_last h ∙ sym (last_other (take (length s - 1) s) (get_or s (length s - 1) 0) e) ∙ ap without_last_zeros (sym (at_last h))

  pub none_stays : length s < 1 → s ≡ without_last_zeros s
  unfolding without_last_zeros
  none_stays h = let e : s ≡ [] = empty s (omega arith) in rw e

-- written behind v, the digits without their last zeros and all of them stand for one value
pub nothing_lost : (v : ℕ) (s : List ℕ) → numeral v (without_last_zeros s) * 10 ^ length s ≡ numeral v s * 10 ^ length (without_last_zeros s)
unfolding without_last_zeros numeral digit_of
nothing_lost v [] = refl
nothing_lost v (b ∷ s) = go (is "0" b && blank (without_last_zeros s)) refl (nothing_lost (v * 10 + digit_of b) s)
  where
    go : (t : Bool) → (is "0" b && blank (without_last_zeros s)) ≡ t
        → numeral (v * 10 + digit_of b) (without_last_zeros s) * 10 ^ length s ≡ numeral (v * 10 + digit_of b) s * 10 ^ length (without_last_zeros s)
        → numeral v (cond t [] (b ∷ without_last_zeros s)) * 10 ^ suc (length s) ≡ numeral (v * 10 + digit_of b) s * 10 ^ length (cond t [] (b ∷ without_last_zeros s))
    go true e on =
        let zero-here : b ≡ 48 = eqb-true b 48 (and_left (is "0" b) _ e) in
        let none_left : without_last_zeros s ≡ [] = empty (without_last_zeros s) (eqb-true (length (without_last_zeros s)) 0 (and_right (is "0" b) _ e)) in
        let nothing-here : digit_of b ≡ 0 = rw zero-here in
        let tenfold : v * 10 ≡ v * 10 + digit_of b = omega (arith, nothing-here) in
        ap (λ (n : ℕ). v * n) (pow-succ' 10 (length s)) ∙ sym (mul_assoc v 10 (10 ^ length s)) ∙ ap (λ (n : ℕ). n * 10 ^ length s) tenfold ∙ (rw none_left at on)
    go false e on =
        rw (pow-suc 10 (length s), pow-suc 10 (length (without_last_zeros s))) (sym (mul_assoc _ (10 ^ length s) 10) ∙ ap (λ (n : ℕ). n * 10) on ∙ mul_assoc _ (10 ^ length (without_last_zeros s)) 10)

-- no digit is left, or the last one left is not 0
pub last_digit : (v : ℕ) (s : List ℕ) → all_of Digit s ≡ true → (length (without_last_zeros s) ≡ 0) ⊎ ((k : ℕ) → numeral v (without_last_zeros s) ≡ k * 10 → ⊥)
unfolding without_last_zeros numeral digit_of all_of
last_digit v [] e = inl refl
last_digit v (b ∷ s) e = by_test (is "0" b && blank (without_last_zeros s)) (λ h. inl (rw h)) (λ h. rw h (inr (⊎_elim (here h) (λ on. on) (last_digit (v * 10 + digit_of b) s (and_right (in_class Digit b) _ e)))))
  where
    digit : (48 ≤ b) × (b ≤ 57)
    digit = digit_yes b (and_left (in_class Digit b) _ e)

    here : (is "0" b && blank (without_last_zeros s)) ≡ false → length (without_last_zeros s) ≡ 0 → (k : ℕ) → numeral (v * 10 + digit_of b) (without_last_zeros s) ≡ k * 10 → ⊥
    here h none k f =
        let some : b ≡ 48 → ⊥ = λ z. true≢false (rw (eq-eqb b 48 z, none) at h) in
        let counted : v * 10 + digit_of b ≡ k * 10 = rw (empty (without_last_zeros s) none) at f in
        let value : digit_of b ≡ b - 48 = rw (and_left (in_class Digit b) _ e) in
        omega (arith, some, digit, counted, value)

-- with w before the point, t without its last zeros has the value of t, and the fewest places
module _ (w t : List ℕ) (few : length (w ++ t) ≤ 18) (digits : all_of Digit t ≡ true) where
  number_written : (u : List ℕ) → length u ≤ length t → number_of (w ++ u) ≡ numeral (numeral 0 w) u
  number_written u h = sym (number_short (w ++ u) (omega (arith, h, few, length-append w t, length-append w u))) ∙ sym (numeral_append 0 w u)

  pub digits_same : SameValue (decimal_of w (without_last_zeros t)) (decimal_of w t)
  digits_same = record { equal = ap pos (rw (number_written (without_last_zeros t) (no_longer t), number_written t (omega arith)) (nothing_lost (numeral 0 w) t)) }

  pub digits_short : Short (decimal_of w (without_last_zeros t))
  digits_short = record { last = rw (number_written (without_last_zeros t) (no_longer t)) (last_digit (numeral 0 w) t digits) }
