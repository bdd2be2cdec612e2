-- The digits that characters write, and the number that these write.
use mathlib.Core.Path.{◌≡◌, ◌∙◌, sym, refl, ap}
use mathlib.Core.Bool.{Bool, true, false, cond, and-false}
use mathlib.Core.List.{List, [], ◌∷◌, ◌++◌, append_assoc}
use Prim.Native.Nat.{ℕ, ◌+◌, ◌*◌, ◌-◌, ◌/◌, ◌%◌, ◌≤◌, ◌<◌}
use native.Mathlib.Nat.{add-zero, zero-add}
use native.Mathlib.Omega.{arith}
use borrow.Author.Tests.{leb-true, lt-leb, lt-ltb, le-ltb}
use lib.Dec.{leb}
use Rattle.text.specs.Class.{in_class}
use Rattle.text.specs.declared.classes.Class.TheVariants.{Capital}
use Rattle.text.specs.Number.{digit_of}
use Rattle.text.proofs.Bools.{and_left, and_right}
use Rattle.text.proofs.NumberLaws.{digit_small}
use Rattle.ident.specs.Written.{value_of, digits_of, written_digits, decimal}

pub capital_yes : (b : ℕ) → in_class Capital b ≡ true → (65 ≤ b) × (b ≤ 90)
capital_yes b e = (leb-true 65 b (and_left (leb 65 b) (leb b 90) e), leb-true b 90 (and_right (leb 65 b) (leb b 90) e))

pub value_small : (b : ℕ) → value_of b < 36
unfolding value_of
value_small b = go (in_class Capital b) refl
  where
    go : (t : Bool) → in_class Capital b ≡ t → cond t (b - 65 + 10) (digit_of b) < 36
    go true e = omega (arith, capital_yes b e)
    go false e = omega (arith, digit_small b)

-- a character's value as a letter, and as a digit: one of them is 0
pub value_sum : (b : ℕ) → cond (in_class Capital b) (value_of b) 0 + digit_of b ≡ value_of b
unfolding value_of digit_of
value_sum b = go (in_class Capital b) refl
  where
    no_digit : 65 ≤ b → digit_of b ≡ 0
    no_digit h = rw (lt-leb b 57 (omega arith), and-false)

    go : (t : Bool) → in_class Capital b ≡ t → cond t (cond t (b - 65 + 10) (digit_of b)) 0 + digit_of b ≡ cond t (b - 65 + 10) (digit_of b)
    go true e = rw (no_digit (capital_yes b e).0, add-zero)
    go false e = rw zero-add

-- a value's digits: one below 10, else two
module _ (v : ℕ) where
  pub one_digit : v < 10 → digits_of v ≡ v ∷ []
  unfolding digits_of
  one_digit h = rw (lt-ltb _ _ h)

  pub two_digits : 10 ≤ v → digits_of v ≡ v / 10 ∷ v % 10 ∷ []
  unfolding digits_of
  two_digits h = rw (le-ltb _ _ h)

-- the digits of a character with value v, behind what stands for k
module _ (k b : ℕ) {v : ℕ} (e : v ≡ value_of b) where
  pub one_behind : v < 10 → k * 10 + v ≡ decimal k (digits_of (value_of b))
  unfolding decimal
  one_behind h = rw (sym e, one_digit v h)

  pub two_behind : 10 ≤ v → k * 100 + v ≡ decimal k (digits_of (value_of b))
  unfolding decimal
  two_behind h = rw (sym e, two_digits v h) (omega arith)

-- what characters write, one part behind another
pub written_append : (s t : List ℕ) → written_digits (s ++ t) ≡ written_digits s ++ written_digits t
unfolding written_digits
written_append [] t = refl
written_append (b ∷ s) t =
    ap (λ (ds : List ℕ). digits_of (value_of b) ++ ds) (written_append s t)
    ∙ sym (append_assoc (digits_of (value_of b)) (written_digits s) (written_digits t))

pub decimal_append : (k : ℕ) (ds es : List ℕ) → decimal k (ds ++ es) ≡ decimal (decimal k ds) es
unfolding decimal
decimal_append k [] es = refl
decimal_append k (d ∷ ds) es = decimal_append (k * 10 + d) ds es

pub decimal_on : (k : ℕ) (s t : List ℕ) → decimal (decimal k (written_digits s)) (written_digits t) ≡ decimal k (written_digits (s ++ t))
decimal_on k s t = sym (decimal_append k (written_digits s) (written_digits t)) ∙ ap (decimal k) (sym (written_append s t))
