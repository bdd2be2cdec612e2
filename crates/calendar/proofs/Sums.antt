-- Sums: one summand more, sums that grow. The days of the months of a year.
use Prim.Native.Nat.{ℕ, zero, suc, ◌+◌, ◌-◌, ◌≤◌}
use mathlib.Core.Path.{◌≡◌, refl}
use mathlib.Core.Bool.{Bool, true, false, cond, ◌||◌}
use native.Mathlib.Omega.{arith}
use native.Mathlib.Nat.{le_refl}
use lib.Dec.{eqb}
use Rattle.calendar.specs.Day.{leap, month_length}
use Rattle.calendar.proofs.DayNumber.{year_length, sum, total}

sum_grows : (f : ℕ → ℕ) (n j : ℕ) → sum f n ≤ sum f (n + j)
unfolding sum
sum_grows f n zero = let e : n + 0 ≡ n = omega arith in rw e (le_refl (sum f n))
sum_grows f n (suc j) = let e : n + suc j ≡ suc (n + j) = omega arith in rw e (omega (arith, sum_grows f n j))

module _ (f : ℕ → ℕ) (first : ℕ) where
  pub total_none : total f first first ≡ 0
  unfolding sum
  total_none = let e : first - first ≡ 0 = omega arith in rw e

  pub total_on : (a : ℕ) → first ≤ a → total f first (a + 1) ≡ total f first a + f a
  unfolding sum
  total_on a h =
      let e : a + 1 - first ≡ suc (a - first) = omega arith in
      let g : first + (a - first) ≡ a = omega arith in
      rw (e, g)

  pub total_le : (a b : ℕ) → a ≤ b → total f first a ≤ total f first b
  total_le a b h =
      let e : b - first ≡ (a - first) + ((b - first) - (a - first)) = omega arith in
      rw e (sum_grows (λ k. f (first + k)) (a - first) ((b - first) - (a - first)))

pub month_small : (y m : ℕ) → (28 ≤ month_length y m) × (month_length y m ≤ 31)
unfolding month_length
month_small y m = go (eqb m 2) (leap y) (eqb m 4 || eqb m 6 || eqb m 9 || eqb m 11)
  where
    go : (february leaps short : Bool) → (28 ≤ cond february (cond leaps 29 28) (cond short 30 31)) × (cond february (cond leaps 29 28) (cond short 30 31) ≤ 31)
    go true true s = (omega arith, omega arith)
    go true false s = (omega arith, omega arith)
    go false l true = (omega arith, omega arith)
    go false l false = (omega arith, omega arith)

pub months_of_year : (y : ℕ) → total (month_length y) 1 13 ≡ year_length y
unfolding sum month_length year_length
months_of_year y = go (leap y)
  where
    go : (t : Bool) → 31 + cond t 29 28 + 31 + 30 + 31 + 30 + 31 + 31 + 30 + 31 + 30 + 31 ≡ cond t 366 365
    go true = refl
    go false = refl
