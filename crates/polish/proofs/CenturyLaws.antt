-- The century by a month's number.
use Prim.Native.Nat.{ℕ, zero, suc, ◌+◌, ◌*◌, ◌/◌, ◌%◌, ◌≤◌, ◌<◌}
use mathlib.Core.Path.{◌≡◌, ◌∙◌, refl, ap}
use mathlib.Core.Bool.{Bool, true, false, cond, ◌&&◌}
use native.Mathlib.Omega.{arith}
use lib.Dec.{eqb}
use borrow.Author.Tests.{eqb-true, eqb-false}
use Rattle.text.proofs.Bools.{and_left, and_right, by_test}
use Rattle.polish.specs.Birth.{within, century}

choice_small : (t : Bool) {x y n : ℕ} → x ≤ n → y ≤ n → cond t x y ≤ n
choice_small true h k = h
choice_small false h k = k

pub century_small : (m : ℕ) → century m ≤ 2200
unfolding century
century_small m =
    choice_small (within 81 92 m) (omega arith)
    (choice_small (within 1 12 m) (omega arith)
    (choice_small (within 21 32 m) (omega arith)
    (choice_small (within 41 52 m) (omega arith)
    (choice_small (within 61 72 m) (omega arith) (omega arith)))))

-- a test that all numbers below n meet
abbrev all_below : (ℕ → Bool) → ℕ → Bool
all_below p zero = true
all_below p (suc n) = p n && all_below p n

each_below : (p : ℕ → Bool) (n m : ℕ) → all_below p n ≡ true → m < n → p m ≡ true
each_below p zero m e h = absurd (omega arith)
each_below p (suc n) m e h =
    by_test (eqb m n)
    (λ q. ap p (eqb-true m n q) ∙ and_left (p n) (all_below p n) e)
    (λ q. each_below p n m (and_right (p n) (all_below p n) e) (omega (arith, eqb-false m n q)))

-- each century has twenty of the months' numbers, the 1900s the first and the 1800s the last: the hundreds of its years by their place, and back
abbrev pub hundreds : ℕ → ℕ
hundreds q = 18 + (q + 1) % 5

abbrev pub twenties : ℕ → ℕ
twenties a = (a + 1) % 5

pub hundreds_twenties : (a : ℕ) → 18 ≤ a → a ≤ 22 → hundreds (twenties a) ≡ a
hundreds_twenties a h k = omega arith

pub twenties_hundreds : (q : ℕ) → q ≤ 4 → twenties (hundreds q) ≡ q
twenties_hundreds q h = omega arith

-- 1 to 12 of the twenty are months
abbrev pub century_at : ℕ → ℕ
century_at m = hundreds (m / 20) * 100

century_is : (m : ℕ) → m ≤ 99 → century m ≡ cond (within 1 12 (m % 20)) (century_at m) 0
unfolding century
century_is m h = eqb-true _ _ (each_below (λ n. eqb (century n) (cond (within 1 12 (n % 20)) (century_at n) 0)) 100 m refl (omega arith))

pub century_month : (m : ℕ) → m ≤ 99 → within 1 12 (m % 20) ≡ true → century m ≡ century_at m
century_month m h e = century_is m h ∙ rw e

pub century_some : (m : ℕ) → m ≤ 99 → 0 < century m → century m ≡ century_at m
century_some m h k = by_test (within 1 12 (m % 20)) (century_month m h) (λ p. absurd (omega (arith, rw p at (century_is m h))))
