-- A line without a CR at its end, by its last byte.
use mathlib.Core.Path.{◌≡◌, refl}
use mathlib.Core.Bool.{Bool, true, false, cond}
use mathlib.Core.List.{List, [], ◌∷◌}
use Prim.Native.Nat.{ℕ, ◌-◌, ◌≤◌, ◌<◌}
use native.Mathlib.Omega.{arith}
use lib.Dec.{eqb}
use lib.ListN.{length, take, get_or}
use borrow.Author.Tests.{eq-eqb, ne_eqb}
use Rattle.checker.specs.Bare.{bare}

cons_cond : (b : ℕ) (t : Bool) (x y : List ℕ) → b ∷ cond t x y ≡ cond t (b ∷ x) (b ∷ y)
cons_cond b true x y = refl
cons_cond b false x y = refl

by_last : (b : ℕ) (s : List ℕ) → bare (b ∷ s) ≡ cond (eqb (get_or (b ∷ s) (length s) 0) 13) (take (length s) (b ∷ s)) (b ∷ s)
unfolding bare
by_last b [] = refl
by_last b (c ∷ s) = rw (by_last c s) (cons_cond b (eqb (get_or (c ∷ s) (length s) 0) 13) (take (length s) (c ∷ s)) (c ∷ s))

pub bare_none : (s : List ℕ) → length s ≤ 0 → s ≡ bare s
unfolding bare
bare_none [] h = refl
bare_none (b ∷ s) h = absurd (omega arith)

pub bare_cr : (s : List ℕ) → 0 < length s → get_or s (length s - 1) 0 ≡ 13 → take (length s - 1) s ≡ bare s
bare_cr [] h e = absurd (omega arith)
bare_cr (b ∷ s) h e =
    let n : length (b ∷ s) - 1 ≡ length s = omega arith in
    let t : eqb (get_or (b ∷ s) (length s) 0) 13 ≡ true = eq-eqb (get_or (b ∷ s) (length s) 0) 13 (rw n at e) in
    rw (n, by_last b s, t)

pub bare_whole : (s : List ℕ) → 0 < length s → (get_or s (length s - 1) 0 ≡ 13 → ⊥) → s ≡ bare s
bare_whole [] h e = absurd (omega arith)
bare_whole (b ∷ s) h e =
    let n : length (b ∷ s) - 1 ≡ length s = omega arith in
    let t : eqb (get_or (b ∷ s) (length s) 0) 13 ≡ false = ne_eqb (get_or (b ∷ s) (length s) 0) 13 (rw n at e) in
    rw (by_last b s, t)
