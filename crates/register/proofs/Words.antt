-- Words as they are compared, and the numbers in a head.
use mathlib.Core.Path.{◌≡◌, ◌∙◌, refl, sym, ap}
use mathlib.Core.Bool.{Bool, true, false, ◌&&◌, true≢false}
use mathlib.Core.List.{List, [], ◌∷◌, ◌++◌}
use Prim.Native.Nat.{ℕ, zero, suc, ◌+◌, ◌*◌, ◌^◌, ◌/◌, ◌%◌, ◌<◌}
use native.Mathlib.Nat.{pow-suc, mod-add-div, div-lt_iff_lt-mul}
use native.Mathlib.Omega.{arith}
use borrow.Author.Tests.{eq-eqb, eqb-true}
use lib.Dec.{eqb, lit<}
use lib.ListN.{length, take, drop}
use Rattle.text.specs.Word.{starts_with, same}
use Rattle.text.specs.Number.{little_endian}
use Rattle.text.proofs.Bools.{and_left, and_right}
use Rattle.register.specs.Written.{little_bytes}
use Rattle.register.proofs.Stores.{drop_take}

-- a text that begins with a word has it as its first bytes
pub starts_take : (word s : List ℕ) → starts_with word s ≡ same word (take (length word) s)
unfolding starts_with same
starts_take [] s = refl
starts_take (y ∷ word) [] = refl
starts_take (y ∷ word) (x ∷ s) = ap (λ t. eqb x y && t) (starts_take word s)

pub same_refl : (s : List ℕ) → same s s ≡ true
unfolding same
same_refl [] = refl
same_refl (x ∷ s) = rw (eq-eqb x x refl) (same_refl s)

pub same_true : (word s : List ℕ) → same word s ≡ true → s ≡ word
unfolding same
same_true [] [] h = refl
same_true [] (x ∷ s) h = absurd (true≢false (sym h))
same_true (y ∷ word) [] h = absurd (true≢false (sym h))
same_true (y ∷ word) (x ∷ s) h = λ i. eqb-true x y (and_left (eqb x y) (same word s) h) i ∷ same_true word s (and_right (eqb x y) (same word s) h) i

-- two texts in two parts, of which the first are equally long
pub same_append : (a b s t : List ℕ) → length a ≡ length b → same (a ++ s) (b ++ t) ≡ (same a b && same s t)
unfolding same
same_append [] [] s t h = refl
same_append [] (x ∷ b) s t h = absurd (omega arith)
same_append (y ∷ a) [] s t h = absurd (omega arith)
same_append (y ∷ a) (x ∷ b) s t h = go (eqb x y) (same_append a b s t (omega arith))
  where
    go : (e : Bool) → same (a ++ s) (b ++ t) ≡ (same a b && same s t) → (e && same (a ++ s) (b ++ t)) ≡ (e && same a b && same s t)
    go true p = p
    go false p = refl

-- a number is read from its own bytes only
little_take : (k : ℕ) (s : List ℕ) → little_endian k s ≡ little_endian k (take k s)
little_take zero s = refl
little_take (suc k) [] = refl
little_take (suc k) (x ∷ s) = ap (λ v. x + 256 * v) (little_take k s)

pub little_head : (i k : ℕ) (s t : List ℕ) → take (i + k) s ≡ take (i + k) t → little_endian k (drop i s) ≡ little_endian k (drop i t)
little_head i k s t h =
    little_take k (drop i s)
    ∙ ap (little_endian k) (sym (drop_take i k s) ∙ ap (drop i) h ∙ drop_take i k t)
    ∙ sym (little_take k (drop i t))

-- and is the one that they were written for
pub little_read : (k m : ℕ) (s : List ℕ) → m < 256 ^ k → little_endian k (little_bytes k m ++ s) ≡ m
little_read zero m s h = omega arith
little_read (suc k) m s h = ap (λ v. m % 256 + 256 * v) (little_read k (m / 256) s ((div-lt_iff_lt-mul (lit< tt)).1 (rw (pow-suc 256 k) at h))) ∙ mod-add-div m 256

pub little_length : (k m : ℕ) → length (little_bytes k m) ≡ k
little_length zero m = refl
little_length (suc k) m = ap suc (little_length k (m / 256))
