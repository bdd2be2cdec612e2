-- Numbers in digits: how large they get, and one row of digits behind another.
use mathlib.Core.Path.{◌≡◌, ◌∙◌, refl}
use mathlib.Core.Bool.{Bool, true, false, cond}
use mathlib.Core.List.{List, [], ◌∷◌, ◌++◌}
use Prim.Native.Nat.{ℕ, suc, ◌+◌, ◌*◌, ◌-◌, ◌^◌, ◌≤◌, ◌<◌}
use native.Mathlib.Nat.{add-zero, pow-suc, pow-le-pow_right}
use native.Mathlib.Numerals.{add-one}
use native.Mathlib.Omega.{arith}
use borrow.Author.Tests.{leb-true, le-leb, lt-leb}
use lib.Dec.{leb, lit<}
use lib.ListN.{length, get_or, drop, drop_of_length-le, length-append}
use Rattle.text.specs.declared.classes.Class.TheVariants.{Digit}
use Rattle.text.specs.Class.{in_class}
use Rattle.text.specs.Number.{digit_of, numeral, number_of, two_digits, four_digits, eight_digits}
use Rattle.text.proofs.Bools.{and_left, and_right}
use Rattle.text.proofs.Lists.{rest_at}

pub digit_yes : (b : ℕ) → in_class Digit b ≡ true → (48 ≤ b) × (b ≤ 57)
digit_yes b e = (leb-true 48 b (and_left (leb 48 b) (leb b 57) e), leb-true b 57 (and_right (leb 48 b) (leb b 57) e))

pub digit_small : (b : ℕ) → digit_of b ≤ 9
unfolding digit_of
digit_small b = go (in_class Digit b) refl
  where
    go : (t : Bool) → in_class Digit b ≡ t → cond t (b - 48) 0 ≤ 9
    go true e = omega (arith, digit_yes b e)
    go false e = omega arith

pub two_small : (s : List ℕ) → two_digits s ≤ 99
unfolding two_digits
two_small s = omega (arith, digit_small (get_or s 0 0), digit_small (get_or s 1 0))

pub four_small : (s : List ℕ) → four_digits s ≤ 9999
unfolding four_digits
four_small s = omega (arith, two_small s, two_small (drop 2 s))

pub eight_small : (s : List ℕ) → eight_digits s ≤ 99999999
unfolding eight_digits
eight_small s = omega (arith, four_small s, four_small (drop 4 s))

ten : (n : ℕ) → 10 ^ (n + 1) ≡ 10 ^ n * 10
ten n = rw add-one (pow-suc 10 n)

pub ten_grows : (i j : ℕ) → i ≤ j → 10 ^ i ≤ 10 ^ j
ten_grows i j h = pow-le-pow_right {n = 10} (lit< tt) h

-- digits behind a number below 10 ^ j write one below 10 ^ (j + their number)
pub numeral_below : (j k : ℕ) (s : List ℕ) → k < 10 ^ j → numeral k s < 10 ^ (j + length s)
unfolding numeral
numeral_below j k [] h = rw add-zero h
numeral_below j k (b ∷ s) h =
    let e : j + suc (length s) ≡ j + 1 + length s = omega arith in
    rw e (numeral_below (j + 1) (k * 10 + digit_of b) s (rw (ten j) (omega (arith, digit_small b))))

pub numeral_append : (k : ℕ) (s t : List ℕ) → numeral (numeral k s) t ≡ numeral k (s ++ t)
unfolding numeral
numeral_append k [] t = refl
numeral_append k (b ∷ s) t = numeral_append (k * 10 + digit_of b) s t

-- v is what the bytes before place i write behind k
pub record ReadSoFar (k : ℕ) (s : List ℕ) (v i : ℕ) : Type 0 where
  pub short : length s ≤ 18
  pub within : i ≤ length s
  pub below : v < 10 ^ (18 - length s + i)
  pub left : numeral v (drop i s) ≡ numeral k s

pub read_start : {k : ℕ} {s : List ℕ} → length s ≤ 18 → k < 10 ^ (18 - length s) → ReadSoFar k s k 0
read_start {k} {s} h l = record { short = h; within = omega arith; below = rw add-zero l; left = refl }

module _ {k : ℕ} {s : List ℕ} {v i : ℕ} (so_far : ReadSoFar k s v i) where
  pub read_small : i < length s → v < 10 ^ 17
  read_small h = omega (arith, ten_grows (18 - length s + i) 17 (omega arith))

  pub read_on : i < length s → ReadSoFar k s (v * 10 + digit_of (get_or s i 0)) (i + 1)
  unfolding numeral
  read_on h =
      let e : 18 - length s + (i + 1) ≡ 18 - length s + i + 1 = omega arith in
      record {
        short = so_far.short;
        within = omega arith;
        below = rw (e, ten (18 - length s + i)) (omega (arith, digit_small (get_or s i 0)));
        left = rw (rest_at 0 s i h) at so_far.left;
      }

  pub read_end : length s ≤ i → v ≡ numeral k s
  unfolding numeral
  read_end h = rw (drop_of_length-le s h) at so_far.left

-- one row of at most 18 digits, and two that are together no longer
pub number_long : (s : List ℕ) → 18 < length s → 0 ≡ number_of s
unfolding number_of
number_long s h = rw (lt-leb (length s) 18 h)

pub number_short : (s : List ℕ) → length s ≤ 18 → numeral 0 s ≡ number_of s
unfolding number_of
number_short s h = rw (le-leb (length s) 18 h)

module _ (s t : List ℕ) where
  pub joined_long : 18 < length s + length t → 0 ≡ number_of (s ++ t)
  joined_long h = number_long (s ++ t) (rw length-append h)

  pub joined_short : length s + length t ≤ 18 → {v w : ℕ} → v ≡ numeral 0 s → w ≡ numeral v t → w ≡ number_of (s ++ t)
  joined_short h e f = f ∙ rw (e, numeral_append 0 s t) (number_short (s ++ t) (rw length-append h))

  -- what stands for s leaves room for the digits of t
  pub joined_fits : length s + length t ≤ 18 → {v : ℕ} → v ≡ numeral 0 s → v < 10 ^ (18 - length t)
  joined_fits h e = rw e (omega (arith, numeral_below 0 0 s (lit< tt), ten_grows (0 + length s) (18 - length t) (omega arith)))
