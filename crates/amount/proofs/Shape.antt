-- D(n, f, m) is exactly the two rows of the document, each with its value.
use mathlib.Core.Path.{◌≡◌, ◌∙◌, refl}
use mathlib.Core.Bool.{Bool, true, false, cond, ◌&&◌, or-true}
use mathlib.Core.List.{List, [], ◌∷◌, ◌++◌, append-nil}
use mathlib.Core.Logic.{◌⊎◌, inl, inr}
use Prim.Native.Nat.{ℕ, suc, ◌+◌, ◌≤◌, ◌<◌}
use native.Mathlib.Nat.{add-zero}
use native.Mathlib.Numerals.{add-one}
use native.Mathlib.Omega.{arith}
use borrow.Author.Tests.{eq-eqb, ne_eqb, eqb-true, eqb-false, le-leb, leb-true}
use lib.Dec.{leb, eqb}
use lib.IntN.{pos}
use lib.ListN.{length, get_or, drop_of_length-le}
use lib.Seq.{take_all, take-length, take-append_seam, drop-append-add, split_at}
use Rattle.text.specs.Ascii.{ascii}
use Rattle.text.specs.declared.classes.Class.TheVariants.{Digit}
use Rattle.text.specs.Class.{in_class, all_of, run_of}
use Rattle.text.specs.Number.{number_of}
use Rattle.text.proofs.Bools.{and_left, and_right, by_test}
use Rattle.text.proofs.NumberLaws.{digit_yes}
use Rattle.amount.specs.Decimal.{point_at, whole, decimals, is_decimal, without_last_zeros, fewest_decimals, decimal_of, value_of}
use Rattle.amount.proofs.ValueLaws.{Fewest, short_fewest}
use Rattle.amount.proofs.LastZeros.{digits_same, digits_short}
use Rattle.amount.proofs.DecimalLaws.{point_within, whole_length}

-- the second row: at most m long, 1 to n digits, a point, 0 to f digits
pub record Pointed (n f m : ℕ) (s : List ℕ) : Type 0 where
  pub left : List ℕ
  pub right : List ℕ
  pub is : s ≡ left ++ (ascii "." ++ right)
  pub long : length s ≤ m
  pub left_digits : run_of Digit 1 n left ≡ true
  pub right_digits : run_of Digit 0 f right ≡ true

-- digits hold no point
point_passes : (w t : List ℕ) → all_of Digit w ≡ true → point_at (w ++ t) ≡ length w + point_at t
unfolding point_at all_of
point_passes [] t e = omega arith
point_passes (b ∷ w) t e =
    let d : (48 ≤ b) × (b ≤ 57) = digit_yes b (and_left (in_class Digit b) (all_of Digit w) e) in
    let h : point_at (w ++ t) ≡ length w + point_at t = point_passes w t (and_right (in_class Digit b) (all_of Digit w) e) in
    rw (ne_eqb b 46 (λ p. omega (arith, p))) (omega arith)

-- where there is a point, it stands at its place
point_stands : (s : List ℕ) → point_at s < length s → get_or s (point_at s) 0 ≡ 46
unfolding point_at
point_stands [] h = absurd (omega arith)
point_stands (b ∷ s) h = go (eqb b 46) refl h (point_stands s)
  where
    go : (t : Bool) → eqb b 46 ≡ t → cond t 0 (suc (point_at s)) < suc (length s) → (point_at s < length s → get_or s (point_at s) 0 ≡ 46)
        → get_or (b ∷ s) (cond t 0 (suc (point_at s))) 0 ≡ 46
    go true e k on = eqb-true b 46 e
    go false e k on = on (omega arith)

-- the parts of the first row, and of the second
module _ (s : List ℕ) (e : all_of Digit s ≡ true) where
  plain_at : point_at s ≡ length s
  unfolding point_at
  plain_at = rw (append-nil s, add-zero) at (point_passes s [] e)

  plain_whole : whole s ≡ s
  unfolding whole
  plain_whole = rw (plain_at, take-length)

  plain_decimals : decimals s ≡ []
  unfolding decimals
  plain_decimals = let h : length s ≤ point_at s + 1 = omega (arith, plain_at) in drop_of_length-le s h

module _ (w t : List ℕ) (e : all_of Digit w ≡ true) where
  point_at_lem : point_at (w ++ 46 ∷ t) ≡ length w
  unfolding point_at
  point_at_lem = rw add-zero at (point_passes w (46 ∷ t) e)

  point_whole : whole (w ++ 46 ∷ t) ≡ w
  unfolding whole
  point_whole = rw (point_at_lem, take-append_seam)

  point_decimals : decimals (w ++ 46 ∷ t) ≡ t
  unfolding decimals
  point_decimals = rw point_at_lem (drop-append-add w (46 ∷ t) 1)

module _ (n f m : ℕ) where
  -- 1 to n digits are D(n, f, m), and stand for the number that they write
  pub accept_plain : (s : List ℕ) → run_of Digit 1 n s ≡ true → (is_decimal n f m s ≡ true) × (value_of s ≡ record { mantissa = pos (number_of s); places = 0 })
  unfolding is_decimal value_of fewest_decimals without_last_zeros
  accept_plain s e =
      let d : all_of Digit s ≡ true = and_right (leb 1 (length s) && leb (length s) n) _ e in
      (rw (plain_whole s d, e, eq-eqb (length s) (length s) refl), rw (plain_whole s d, plain_decimals s d, append-nil s))

  -- at most m long, 1 to n digits, a point and 0 to f digits are, and stand for the number that the digits write, those behind the point as places,
  -- in the fewest places that have this value
  pub accept_point : (w t : List ℕ) → run_of Digit 1 n w ≡ true → run_of Digit 0 f t ≡ true → length (w ++ (ascii "." ++ t)) ≤ m → (is_decimal n f m (w ++ (ascii "." ++ t)) ≡ true) × (length (w ++ t) ≤ 18 → Fewest (value_of (w ++ (ascii "." ++ t))) (decimal_of w t))
  unfolding is_decimal value_of fewest_decimals
  accept_point w t e g h =
      let d : all_of Digit w ≡ true = and_right (leb 1 (length w) && leb (length w) n) _ e in
      let b : all_of Digit t ≡ true = and_right (leb 0 (length t) && leb (length t) f) _ g in (
        rw (point_whole w t d, point_decimals w t d, e, g, le-leb _ _ h) (or-true (eqb (length w) (length (w ++ 46 ∷ t)))),
        λ few. rw (point_whole w t d, point_decimals w t d) (short_fewest (digits_same w t few b) (digits_short w t few b)),
      )

  -- and nothing else is
  pub only : (s : List ℕ) → is_decimal n f m s ≡ true → (run_of Digit 1 n s ≡ true) ⊎ Pointed n f m s
  unfolding is_decimal whole decimals
  only s e = by_test (eqb (length (whole s)) (length s)) plain pointed
    where
      front : run_of Digit 1 n (whole s) ≡ true
      front = and_left (run_of Digit 1 n (whole s)) _ e

      plain : eqb (length (whole s)) (length s) ≡ true → (run_of Digit 1 n s ≡ true) ⊎ Pointed n f m s
      plain t =
          let h : length s ≤ point_at s = omega (arith, eqb-true (length (whole s)) (length s) t, whole_length s) in
          inl (rw (take_all (point_at s) s h) at front)

      pointed : eqb (length (whole s)) (length s) ≡ false → (run_of Digit 1 n s ≡ true) ⊎ Pointed n f m s
      pointed t =
          let k : length (whole s) ≡ length s → ⊥ = eqb-false (length (whole s)) (length s) t in
          let h : point_at s < length s = omega (arith, whole_length s, point_within s, k) in
          let r : (leb (length s) m && run_of Digit 0 f (decimals s)) ≡ true = rw t at (and_right (run_of Digit 1 n (whole s)) _ e) in
          inr
          (record {
            left = whole s;
            right = decimals s;
            is = split_at s (point_at s) 0 h ∙ rw (point_stands s h, add-one);
            long = leb-true (length s) m (and_left (leb (length s) m) _ r);
            left_digits = front;
            right_digits = and_right (leb (length s) m) _ r;
          })
