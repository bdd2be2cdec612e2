-- Codes of a rising table: what is picked rises, and each code stands once where its flag is set.
use mathlib.Core.Path.{◌≡◌, refl}
use mathlib.Core.Bool.{Bool, true, false}
use mathlib.Core.List.{List, [], ◌∷◌}
use Prim.Native.Nat.{ℕ, zero, suc, ◌≤◌, ◌<◌}
use native.Mathlib.Omega.{arith}
use borrow.Author.Tests.{ltb-true, lt-ltb, eq-eqb, ne_eqb}
use lib.Dec.{ltb}
use lib.ListN.{length, get_or}
use Rattle.text.proofs.Bools.{and_left, and_right}
use Rattle.verdict.specs.Verdict.{bit, pick}
use Rattle.verdict.specs.Counted.{rising_over, times}

module _ (a x : ℕ) (xs : List ℕ) (up : rising_over a (x ∷ xs) ≡ true) where
  rising_head : a < x
  unfolding rising_over
  rising_head = ltb-true a x (and_left (ltb a x) (rising_over x xs) up)

  rising_tail : rising_over x xs ≡ true
  unfolding rising_over
  rising_tail = and_right (ltb a x) (rising_over x xs) up

rising_cons : (a x : ℕ) (xs : List ℕ) → a < x → rising_over x xs ≡ true → rising_over a (x ∷ xs) ≡ true
unfolding rising_over
rising_cons a x xs h up = rw (lt-ltb a x h) up

rising_lower : (a b : ℕ) (xs : List ℕ) → a ≤ b → rising_over b xs ≡ true → rising_over a xs ≡ true
unfolding rising_over
rising_lower a b [] h up = refl
rising_lower a b (x ∷ xs) h up = rising_cons a x xs (omega (arith, rising_head b x xs up)) (rising_tail b x xs up)

pub pick_rising : (a : ℕ) (table : List ℕ) (flags : List Bool) → rising_over a table ≡ true → rising_over a (pick table flags) ≡ true
unfolding pick rising_over
pick_rising a [] flags up = refl
pick_rising a (x ∷ table) [] up = refl
pick_rising a (x ∷ table) (true ∷ flags) up = rising_cons a x (pick table flags) (rising_head a x table up) (pick_rising x table flags (rising_tail a x table up))
pick_rising a (x ∷ table) (false ∷ flags) up =
    pick_rising a table flags (rising_lower a x table (omega (arith, rising_head a x table up)) (rising_tail a x table up))

-- no number stands in a list that rises over it
times_under : (x a : ℕ) (xs : List ℕ) → x ≤ a → rising_over a xs ≡ true → times x xs ≡ 0
unfolding times
times_under x a [] h up = refl
times_under x a (y ∷ xs) h up =
    let over : a < y = rising_head a y xs up in
    rw (ne_eqb x y (λ e. omega arith)) (omega (arith, times_under x y xs (omega arith) (rising_tail a y xs up)))

rising_at : (a : ℕ) (xs : List ℕ) (i : ℕ) → rising_over a xs ≡ true → i < length xs → a < get_or xs i 0
rising_at a [] i up h = absurd (omega arith)
rising_at a (x ∷ xs) zero up h = rising_head a x xs up
rising_at a (x ∷ xs) (suc i) up h = omega (arith, rising_head a x xs up, rising_at x xs i (rising_tail a x xs up) (omega arith))

pub pick_once : (a : ℕ) (table : List ℕ) (flags : List Bool) (i : ℕ) → rising_over a table ≡ true → i < length table
    → times (get_or table i 0) (pick table flags) ≡ bit (get_or flags i false)
unfolding pick times
pick_once a [] flags i up h = absurd (omega arith)
pick_once a (x ∷ table) [] i up h = refl
pick_once a (x ∷ table) (true ∷ flags) zero up h =
    rw (eq-eqb x x refl, times_under x x (pick table flags) (omega arith) (pick_rising x table flags (rising_tail a x table up)))
pick_once a (x ∷ table) (false ∷ flags) zero up h =
    times_under x x (pick table flags) (omega arith) (pick_rising x table flags (rising_tail a x table up))
pick_once a (x ∷ table) (true ∷ flags) (suc i) up h =
    let over : x < get_or table i 0 = rising_at x table i (rising_tail a x table up) (omega arith) in
    rw (ne_eqb (get_or table i 0) x (λ e. omega arith)) (omega (arith, pick_once x table flags i (rising_tail a x table up) (omega arith)))
pick_once a (x ∷ table) (false ∷ flags) (suc i) up h = pick_once x table flags i (rising_tail a x table up) (omega arith)

-- nothing is picked that the table does not hold
pub pick_known : (x : ℕ) (table : List ℕ) (flags : List Bool) → times x (pick table flags) ≤ times x table
unfolding pick times
pick_known x [] flags = omega arith
pick_known x (y ∷ table) [] = omega arith
pick_known x (y ∷ table) (true ∷ flags) = omega (arith, pick_known x table flags)
pick_known x (y ∷ table) (false ∷ flags) = omega (arith, pick_known x table flags)
