-- A row put among rows: what is then kept of each pair, how many rows are its own, and how many there are.
use mathlib.Core.Path.{◌≡◌, ◌∙◌, refl, sym, ap}
use mathlib.Core.Bool.{true, false, cond, not, ◌&&◌}
use mathlib.Core.List.{List, [], ◌∷◌}
use Rattle.std.proofs.Common.{Some, None}
use Prim.Native.Nat.{ℕ, suc, ◌+◌}
use native.Mathlib.Omega.{arith}
use lib.ListN.{length}
use Rattle.text.specs.Word.{same}
use Rattle.text.proofs.Bools.{by_test, or_left, or_right}
use Rattle.register.specs.Rows.{Row, own_from, look}
use Rattle.register.specs.Table.{holds, rows_with, put_row}
use Rattle.register.proofs.Words.{same_true}

-- a pair that another's bytes are not is not where that one is
same_other : (pair other key : List ℕ) → same pair key ≡ false → same other pair ≡ true → same other key ≡ false
same_other pair other key h e = ap (λ s. same s key) (sym (same_true other pair e)) ∙ h

same_there : (pair other key : List ℕ) → same pair key ≡ true → same other key ≡ same other pair
same_there pair other key h = ap (same other) (same_true pair key h)

-- the pair put keeps the value, and every other what it had
pub look_put : (rows : List Row) (pair value other : List ℕ) → look (put_row rows pair value) other ≡ cond (same other pair) value (look rows other)
unfolding look put_row
look_put [] pair value other = refl
look_put (row ∷ rows) pair value other =
    by_test
    (same pair row.key)
    (λ t. by_test (same other pair) (λ e. rw (t, same_there pair other row.key t, e)) (λ e. rw (t, same_there pair other row.key t, e)))
    (λ t.
    by_test
    (same other pair)
    (λ e. rw (t, same_other pair other row.key t e) (look_put rows pair value other ∙ rw e))
    (λ e. rw (t, e) (ap (cond (same other row.key) row.value) (rw e at (look_put rows pair value other)))))

-- a row more for the pair put, where it had none
pub count_put :
    (rows : List Row) (pair value other : List ℕ)
    → rows_with (put_row rows pair value) other ≡ cond (same other pair && not (holds rows pair)) 1 0 + rows_with rows other
unfolding rows_with put_row holds
count_put [] pair value other = by_test (same other pair) (λ e. rw e) (λ e. rw e)
count_put (row ∷ rows) pair value other =
    by_test
    (same pair row.key)
    (λ t. by_test (same other pair) (λ e. rw (t, e) (omega arith)) (λ e. rw (t, e) (omega arith)))
    (λ t. rw t (ap (λ k. cond (same other row.key) 1 0 + k) (count_put rows pair value other) ∙ omega arith))

pub length_put : (rows : List Row) (pair value : List ℕ) → length (put_row rows pair value) ≡ cond (holds rows pair) 0 1 + length rows
unfolding put_row holds
length_put [] pair value = refl
length_put (row ∷ rows) pair value =
    by_test
    (same pair row.key)
    (λ t. rw t (omega arith))
    (λ t. rw t (ap suc (length_put rows pair value) ∙ omega arith))

-- a pair is found nowhere exactly if no row is its own
pub found_nowhere : (i : ℕ) (rows : List Row) (pair : List ℕ) → own_from i rows pair ≡ None → holds rows pair ≡ false
unfolding own_from holds
found_nowhere i [] pair h = refl
found_nowhere i (row ∷ rows) pair h =
    by_test
    (same pair row.key)
    (λ t.
    let e : Some i ≡ None = rw t at h in
    let z : ◌≡◌ {A = ℕ} 0 1 = cc in
    absurd (omega arith))
    (λ t. rw t (found_nowhere (i + 1) rows pair (rw t at h)))

pub nowhere_found : (i : ℕ) (rows : List Row) (pair : List ℕ) → holds rows pair ≡ false → own_from i rows pair ≡ None
unfolding own_from holds
nowhere_found i [] pair h = refl
nowhere_found i (row ∷ rows) pair h =
    rw (or_left (same pair row.key) (holds rows pair) h) (nowhere_found (i + 1) rows pair (or_right (same pair row.key) (holds rows pair) h))
