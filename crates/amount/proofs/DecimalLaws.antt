-- Decimals: where the point stands, how many digits there can be, and that their number fits.
use mathlib.Core.Path.{◌≡◌, ◌∙◌, refl, sym, ap}
use mathlib.Core.Bool.{Bool, true, false, cond, ◌&&◌, ◌||◌}
use mathlib.Core.List.{List, [], ◌∷◌}
use mathlib.Core.Logic.{⊎_elim}
use Prim.Native.Nat.{ℕ, suc, ◌+◌, ◌-◌, ◌^◌, ◌≤◌, ◌<◌}
use native.Mathlib.Omega.{arith}
use borrow.Author.Tests.{eqb-true, leb-true, ltb-false}
use lib.Dec.{leb, ltb, eqb, lit<}
use lib.ListN.{length, take, drop, length-append, length-take, length-drop}
use Rattle.std.specs.Prelude.{◌==◌}
use Rattle.std.specs.List.{position_or_len}
use Rattle.std.specs.Option.{unwrap_or}
use Rattle.std.proofs.Common.{Some, None}
use Rattle.std.proofs.lemmas.List.Recursion.{is_position_or_len}
use Rattle.text.specs.declared.classes.Class.TheVariants.{Digit}
use Rattle.text.specs.Class.{is, run_of}
use Rattle.text.specs.Number.{number_of}
use Rattle.text.proofs.Bools.{and_left, and_right, or_cases, by_test}
use Rattle.text.proofs.NumberLaws.{numeral_below, ten_grows}
use Rattle.amount.specs.Decimal.{point_at, whole, decimals, is_decimal, digits_of, without_last_zeros, fewest_decimals}

pub point_within : (s : List ℕ) → point_at s ≤ length s
unfolding point_at
point_within [] = omega arith
point_within (b ∷ s) = go (is "." b) (point_within s)
  where
    go : (t : Bool) → point_at s ≤ length s → cond t 0 (suc (point_at s)) ≤ suc (length s)
    go true h = omega arith
    go false h = omega arith

-- the point is the first byte that is one, and where there is none the length stands in its place
point_first : (s : List ℕ) → point_at s ≡ position_or_len (λ b. b == 46) s
unfolding point_at
point_first = is_position_or_len point_at (λ b. b == 46) refl (λ b s. grind arith)

pub point_found : (s : List ℕ) → unwrap_or (cond (ltb (position_or_len (λ b. b == 46) s) (length s)) (Some (position_or_len (λ b. b == 46) s)) None) (length s) ≡ point_at s
point_found s = rw (sym (point_first s)) (go (ltb (point_at s) (length s)) refl)
  where
    go : (t : Bool) → ltb (point_at s) (length s) ≡ t → unwrap_or (cond t (Some (point_at s)) None) (length s) ≡ point_at s
    go true e = refl
    go false e = omega (arith, point_within s, ltb-false (point_at s) (length s) e)

-- a number of at most 18 digits, and what `number_of` gives for more, is below 10 ^ 18
pub number_below : (s : List ℕ) → number_of s < 10 ^ 18
unfolding number_of
number_below s = by_test (leb (length s) 18) (λ e. rw e (omega (arith, leb-true (length s) 18 e, numeral_below 0 0 s (lit< tt), ten_grows (0 + length s) 18 (omega (arith, leb-true (length s) 18 e))))) (λ e. rw e (lit< tt))

pub whole_length : (s : List ℕ) → length (whole s) ≡ point_at s
unfolding whole
whole_length s = length-take (point_at s) s ∙ omega (arith, point_within s)

pub digits_length : (s : List ℕ) → length (digits_of s) ≡ point_at s + (length s - (point_at s + 1))
unfolding digits_of decimals
digits_length s = length-append (whole s) (decimals s) ∙ rw (whole_length s, length-drop)

-- what stands before the point and behind it, by the point's place
module _ (s : List ℕ) {p : ℕ} (here : p ≡ point_at s) where
  pub point_room : p ≤ length s
  point_room = rw here (point_within s)

  pub whole_is : {w : List ℕ} → w ≡ take p s → w ≡ whole s
  unfolding whole
  whole_is e = e ∙ rw here

  pub decimals_are : {d : List ℕ} → d ≡ drop (p + 1) s → d ≡ decimals s
  unfolding decimals
  decimals_are e = e ∙ rw here

  pub fewest_are : {d t : List ℕ} → t ≡ without_last_zeros d → d ≡ drop (p + 1) s → t ≡ fewest_decimals s
  unfolding fewest_decimals
  fewest_are f e = f ∙ ap without_last_zeros (decimals_are e)

-- D(n, f, m) has at most n digits without a point, and fewer than m with one
pub few_digits : (n f m : ℕ) (s : List ℕ) → is_decimal n f m s ≡ true → n ≤ 18 → m ≤ 19 → length (digits_of s) ≤ 18
unfolding is_decimal
few_digits n f m s e h k = rw (digits_length s) (⊎_elim plain pointed (or_cases (eqb (length (whole s)) (length s)) _ tail))
  where
    front : run_of Digit 1 n (whole s) ≡ true
    front = and_left (run_of Digit 1 n (whole s)) _ e

    tail : (eqb (length (whole s)) (length s) || (leb (length s) m && run_of Digit 0 f (decimals s))) ≡ true
    tail = and_right (run_of Digit 1 n (whole s)) _ e

    at_most : length (whole s) ≤ n
    at_most = leb-true (length (whole s)) n (and_right (leb 1 (length (whole s))) _ (and_left (leb 1 (length (whole s)) && leb (length (whole s)) n) _ front))

    plain : eqb (length (whole s)) (length s) ≡ true → point_at s + (length s - (point_at s + 1)) ≤ 18
    plain t = omega (arith, at_most, eqb-true (length (whole s)) (length s) t, whole_length s)

    pointed : (leb (length s) m && run_of Digit 0 f (decimals s)) ≡ true → point_at s + (length s - (point_at s + 1)) ≤ 18
    pointed t = omega (arith, at_most, whole_length s, leb-true (length s) m (and_left (leb (length s) m) _ t))
