-- The weighted sum from a place on, and what the two check digits say of it.
use mathlib.Core.Path.{◌≡◌, ◌∙◌, sym, ap}
use mathlib.Core.Bool.{false}
use mathlib.Core.List.{List}
use Prim.Native.Nat.{ℕ, ◌+◌, ◌*◌, ◌-◌, ◌%◌, ◌≤◌, ◌<◌}
use native.Mathlib.Nat.{add-zero, mul-le-mul}
use native.Mathlib.Omega.{arith}
use borrow.Author.Tests.{eqb-true, eqb-false, eq-eqb, ne_eqb}
use lib.Dec.{eqb}
use lib.ListN.{length, get_or, drop, drop_of_length-le}
use lib.Seq.{get_or-drop, drop-drop}
use Rattle.text.specs.Number.{digit_of}
use Rattle.text.proofs.Bools.{by_test}
use Rattle.text.proofs.Lists.{rest_at}
use Rattle.text.proofs.NumberLaws.{digit_small}
use Rattle.polish.specs.Numbers.{weighed, pesel_weights, nip_weights, pesel_right, nip_right}

pub product_small : (a b : ℕ) {u v : ℕ} → u ≡ digit_of a → v ≡ digit_of b → u * v ≤ 81
product_small a b e f = rw (e, f) (mul-le-mul (digit_small a) (digit_small b))

-- the weights from a place on, and the bytes from the same place on
weighed_at : (weights s : List ℕ) (i : ℕ) → i < length weights
    → weighed (drop i weights) (drop i s) ≡ digit_of (get_or weights i 0) * digit_of (get_or s i 0) + weighed (drop (i + 1) weights) (drop (i + 1) s)
unfolding weighed
weighed_at weights s i h = rw (rest_at 0 weights i h, get_or-drop i s 0 0, add-zero i, drop-drop 1 i s)

-- sum is what the weights before place i add
pub record WeighedSoFar (weights s : List ℕ) (sum i : ℕ) : Type 0 where
  pub within : i ≤ length weights
  pub small : sum ≤ 81 * i
  pub left : sum + weighed (drop i weights) (drop i s) ≡ weighed weights s

pub weighed_start : {weights s : List ℕ} → WeighedSoFar weights s 0 0
weighed_start = record { within = omega arith; small = omega arith; left = omega arith }

module _ {weights s : List ℕ} {sum i : ℕ} (so_far : WeighedSoFar weights s sum i) where
  pub weighed_on : {u b v : ℕ} → i < length weights → u ≡ digit_of (get_or weights i 0) → b ≡ get_or s i 0 → v ≡ digit_of b → WeighedSoFar weights s (sum + u * v) (i + 1)
  weighed_on {u} {b} {v} h e f g =
      let p : u * v ≡ digit_of (get_or weights i 0) * digit_of (get_or s i 0) = λ j. e j * (g ∙ ap digit_of f) j in
      record {
        within = omega arith;
        small = omega (arith, product_small (get_or weights i 0) b e g);
        left = omega (arith, so_far.left, weighed_at weights s i h);
      }

  pub weighed_end : length weights ≤ i → sum ≡ weighed weights s
  unfolding weighed
  weighed_end h = sym (add-zero sum) ∙ rw (drop_of_length-le weights h) at so_far.left

-- what a sum lacks to the next multiple of ten makes it one
pub pesel_sum : (sum d : ℕ) → d < 10 → eqb ((10 - sum % 10) % 10) d ≡ eqb ((sum + d) % 10) 0
pesel_sum sum d h =
    by_test (eqb ((10 - sum % 10) % 10) d)
    (λ p. p ∙ sym (eq-eqb _ _ (lacked (eqb-true _ _ p))))
    (λ p. p ∙ sym (ne_eqb _ _ (λ e. eqb-false _ _ p (lacks e))))
  where
    lacked : (10 - sum % 10) % 10 ≡ d → (sum + d) % 10 ≡ 0
    lacked e = omega arith

    lacks : (sum + d) % 10 ≡ 0 → (10 - sum % 10) % 10 ≡ d
    lacks e = omega arith

-- a PESEL's weighted sum and its check digit are together a multiple of ten
pub pesel_ten : (s : List ℕ) → pesel_right s ≡ eqb ((weighed pesel_weights s + digit_of (get_or s 10 0)) % 10) 0
unfolding pesel_right
pesel_ten s = pesel_sum (weighed pesel_weights s) (digit_of (get_or s 10 0)) (omega (arith, digit_small (get_or s 10 0)))

-- a NIP whose remainder is 10 is wrong, whatever its digit
pub nip_ten : (s : List ℕ) → weighed nip_weights s % 11 ≡ 10 → nip_right s ≡ false
unfolding nip_right
nip_ten s e = rw e (ne_eqb 10 (digit_of (get_or s 9 0)) (λ f. omega (arith, digit_small (get_or s 9 0))))
