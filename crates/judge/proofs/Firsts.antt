-- The first test that holds, over two rows of tests.
use mathlib.Core.Path.{◌≡◌, ◌∙◌, refl, ap}
use mathlib.Core.Bool.{Bool, true, false}
use mathlib.Core.List.{List, [], ◌∷◌, ◌++◌}
use Prim.Native.Nat.{ℕ, zero, suc, ◌+◌, ◌≤◌}
use native.Mathlib.Nat.{add-zero}
use native.Mathlib.Omega.{arith}
use lib.ListN.{length, get_or}
use Rattle.text.specs.FirstFrom.{first_from}

-- none of the first row holds: the second decides
pub passed : (n : ℕ) (xs ys : List Bool) → first_from (suc n) xs ≡ 0 → first_from (suc n) (xs ++ ys) ≡ first_from (suc n + length xs) ys
unfolding first_from
passed n [] ys e = rw add-zero
passed n (true ∷ xs) ys e = absurd (omega arith)
passed n (false ∷ xs) ys e =
    let k : suc (suc n) + length xs ≡ suc n + suc (length xs) = omega arith in
    passed (suc n) xs ys e ∙ ap (λ (m : ℕ). first_from m ys) k

-- one of the first row holds: it decides
pub stopped : (n : ℕ) (xs ys : List Bool) → (first_from n xs ≡ 0 → ⊥) → first_from n (xs ++ ys) ≡ first_from n xs
unfolding first_from
stopped n [] ys h = absurd (h refl)
stopped n (true ∷ xs) ys h = refl
stopped n (false ∷ xs) ys h = stopped (suc n) xs ys h

-- where none holds, each is false
pub none_holds : (n : ℕ) (xs : List Bool) (i : ℕ) → first_from (suc n) xs ≡ 0 → get_or xs i false ≡ false
unfolding first_from
none_holds n [] i e = refl
none_holds n (true ∷ xs) i e = absurd (omega arith)
none_holds n (false ∷ xs) zero e = refl
none_holds n (false ∷ xs) (suc i) e = none_holds (suc n) xs i e

-- the number is one of theirs
pub first_small : (n : ℕ) (tests : List Bool) → first_from (suc n) tests ≤ n + length tests
unfolding first_from
first_small n [] = omega arith
first_small n (true ∷ tests) = omega arith
first_small n (false ∷ tests) = omega (arith, first_small (suc n) tests)
