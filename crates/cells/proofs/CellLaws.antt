-- The cells joined by bars are the line again, and there is one more of them than bars.
use mathlib.Core.Path.{◌≡◌, refl, ap}
use mathlib.Core.List.{List, [], ◌∷◌, ◌++◌}
use Prim.Native.Nat.{ℕ, suc, ◌+◌}
use native.Mathlib.Numerals.{add-one}
use borrow.Author.Tests.{eqb-true}
use lib.ListN.{length}
use Rattle.text.proofs.Bools.{by_test}
use Rattle.cells.specs.Cells.{is_bar, bars_of, first_cell, later_cells, cells_of, behind_bars, joined}

parted : (s : List ℕ) → first_cell s ++ behind_bars (later_cells s) ≡ s
parted [] = refl
parted (b ∷ s) =
    by_test
    (is_bar b)
    (λ t. rw (t, eqb-true b 124 t) (ap (λ (l : List ℕ). 124 ∷ l) (parted s)))
    (λ t. rw t (ap (λ (l : List ℕ). b ∷ l) (parted s)))

pub cells_joined : (s : List ℕ) → joined (cells_of s) ≡ s
unfolding joined cells_of
cells_joined s = parted s

later_count : (s : List ℕ) → length (later_cells s) ≡ bars_of s
later_count [] = refl
later_count (b ∷ s) = by_test (is_bar b) (λ t. rw t (ap suc (later_count s))) (λ t. rw t (later_count s))

pub cells_count : (s : List ℕ) → length (cells_of s) ≡ bars_of s + 1
unfolding cells_of
cells_count s = rw add-one (ap suc (later_count s))

-- no cell holds a bar
first_free : (s : List ℕ) → bars_of (first_cell s) ≡ 0
first_free [] = refl
first_free (b ∷ s) = by_test (is_bar b) (λ t. rw t) (λ t. rw (t, t) (first_free s))

pub data BarFree : List (List ℕ) → Type 0 where
  none : BarFree []
  more : {c : List ℕ} {cells : List (List ℕ)} → bars_of c ≡ 0 → BarFree cells → BarFree (c ∷ cells)

later_free : (s : List ℕ) → BarFree (later_cells s)
later_free [] = none
later_free (b ∷ s) = by_test (is_bar b) (λ t. rw t (more (first_free s) (later_free s))) (λ t. rw t (later_free s))

pub cells_bar_free : (s : List ℕ) → BarFree (cells_of s)
unfolding cells_of
cells_bar_free s = more (first_free s) (later_free s)
