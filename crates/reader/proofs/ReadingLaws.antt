-- The steps of a reader, in turn, hand back the cells of the line.
use mathlib.Core.Path.{◌≡◌, ◌∙◌, refl, sym, ap}
use mathlib.Core.Bool.{false}
use mathlib.Core.List.{List, [], ◌∷◌}
use Prim.Native.Nat.{ℕ, zero, suc, ◌+◌, ◌-◌, ◌≤◌, ◌<◌}
use native.Mathlib.Omega.{arith}
use borrow.Author.Tests.{lt-ltb, le-ltb, ltb-true, ltb-false}
use lib.Dec.{ltb}
use lib.ListN.{length, get_or, take, drop, length-drop, drop_of_length-le}
use lib.Seq.{take-nil, take_all, drop-drop}
use Rattle.std.specs.List.{position, position_or_len}
use Rattle.std.specs.Prelude.{unwrap_or}
use Rattle.std.proofs.lemmas.List.Recursion.{is_position_or_len}
use Rattle.text.proofs.Bools.{by_test}
use Rattle.cells.specs.Cells.{is_bar, first_cell, later_cells, cells_of}
use Rattle.reader.specs.Reading.{is_over, cell_from, place_after, handed}

-- the first cell is as long as the place of the first bar says
first_length : (s : List ℕ) → length (first_cell s) ≡ position_or_len is_bar s
first_length s = is_position_or_len (λ l. length (first_cell l)) is_bar refl (λ b l. by_test (is_bar b) (λ t. rw t) (λ t. rw t (omega arith))) s

pub first_short : (s : List ℕ) → length (first_cell s) ≤ length s
first_short [] = omega arith
first_short (b ∷ s) = by_test (is_bar b) (λ t. rw t (omega arith)) (λ t. rw t (omega (arith, first_short s)))

pub cell_until : (s : List ℕ) → unwrap_or (position is_bar s) (length s) ≡ length (first_cell s)
cell_until s =
    by_test
    (ltb (position_or_len is_bar s) (length s))
    (λ t. rw t (sym (first_length s)))
    (λ t. rw t (omega (arith, first_length s, first_short s, ltb-false (position_or_len is_bar s) (length s) t)))

pub first_end : (s : List ℕ) (i : ℕ) → length s ≤ i → first_cell (drop i s) ≡ []
first_end s i h = rw (drop_of_length-le s h)

-- a cell is the part of the line that is as long as it
pub first_is_part : (s : List ℕ) → take (length (first_cell s)) s ≡ first_cell s
first_is_part [] = refl
first_is_part (b ∷ s) = by_test (is_bar b) (λ t. rw t) (λ t. rw t (ap (λ (l : List ℕ). b ∷ l) (first_is_part s)))

-- the bytes up to the bar before the next place are the cell
pub before_next : (s : List ℕ) (at : ℕ) → take (place_after s at - 1 - at) (drop at s) ≡ cell_from s at
unfolding place_after cell_from is_over
before_next s at =
    by_test
    (ltb (length s) at)
    (λ t.
    let z : at - 1 - at ≡ 0 = omega arith in
    rw (t, z) (sym (first_end s at (omega (arith, ltb-true (length s) at t)))))
    (λ t.
    let z : at + length (first_cell (drop at s)) + 1 - 1 - at ≡ length (first_cell (drop at s)) = omega arith in
    rw (t, z) (first_is_part (drop at s)))

-- behind a cell the line ends, or a bar comes and then the other cells
data Behind (s : List ℕ) : Type 0 where
  ends : length (first_cell s) ≡ length s → later_cells s ≡ [] → Behind s
  goes_on : length (first_cell s) < length s → later_cells s ≡ cells_of (drop (length (first_cell s) + 1) s) → Behind s

longer : (b : ℕ) (s : List ℕ) → is_bar b ≡ false → Behind s → Behind (b ∷ s)
longer b s t (ends p q) = ends (rw t (ap suc p)) (rw t q)
longer b s t (goes_on p q) =
    let k : suc (length (first_cell s)) + 1 ≡ suc (length (first_cell s) + 1) = omega arith in
    goes_on (rw t (omega (arith, p))) (rw (t, k) q)

behind : (s : List ℕ) → Behind s
unfolding cells_of
behind [] = ends refl refl
behind (b ∷ s) = by_test (is_bar b) (λ t. goes_on (rw t (omega arith)) (rw t)) (λ t. longer b s t (behind s))

over_none : (n : ℕ) (s : List ℕ) (at : ℕ) → length s < at → handed n s at ≡ []
unfolding handed is_over
over_none zero s at h = refl
over_none (suc n) s at h = rw (lt-ltb _ _ h)

next_place : (s : List ℕ) (at : ℕ) → at ≤ length s → place_after s at ≡ at + (length (first_cell (drop at s)) + 1)
unfolding place_after is_over cell_from
next_place s at h = rw (le-ltb _ _ h) (omega arith)

step_on :
    (n : ℕ) (s : List ℕ) → ((at : ℕ) → at ≤ length s → handed n s at ≡ take n (cells_of (drop at s)))
    → (at : ℕ) → at ≤ length s → Behind (drop at s) → handed n s (place_after s at) ≡ take n (later_cells (drop at s))
step_on n s from at h (ends p q) =
    let l : length (drop at s) ≡ length s - at = length-drop at s in
    rw (q, take-nil n, next_place s at h) (over_none n s _ (omega (arith, p, l)))
step_on n s from at h (goes_on p q) =
    let l : length (drop at s) ≡ length s - at = length-drop at s in
    rw (q, next_place s at h, drop-drop) (from _ (omega (arith, p, l)))

-- n steps from a place in the line hand back the first n cells there
pub steps_from : (n : ℕ) (s : List ℕ) (at : ℕ) → at ≤ length s → handed n s at ≡ take n (cells_of (drop at s))
unfolding handed is_over cells_of cell_from
steps_from zero s at h = refl
steps_from (suc n) s at h =
    rw (le-ltb _ _ h) (ap (λ (cells : List (List ℕ)). first_cell (drop at s) ∷ cells) (step_on n s (steps_from n s) at h (behind (drop at s))))

-- from the line's start, as many steps as there are cells, or more, hand back exactly the cells
pub steps_hand_cells : (s : List ℕ) (n : ℕ) → length (cells_of s) ≤ n → handed n s 0 ≡ cells_of s
steps_hand_cells s n h = steps_from n s 0 (omega arith) ∙ take_all n (cells_of s) h

-- behind the first cell from a place on come those from the next place on
blank_cells : (n : ℕ) → get_or (cells_of []) n [] ≡ []
unfolding cells_of
blank_cells zero = refl
blank_cells (suc n) = refl

later_behind : (s : List ℕ) (at n : ℕ) → at ≤ length s → Behind (drop at s) → get_or (later_cells (drop at s)) n [] ≡ get_or (cells_of (drop (place_after s at) s)) n []
later_behind s at n h (ends p q) =
    let l : length (drop at s) ≡ length s - at = length-drop at s in
    let over : length s ≤ at + (length (first_cell (drop at s)) + 1) = omega (arith, p, l) in
    rw (q, next_place s at h, drop_of_length-le s over) (sym (blank_cells n))
later_behind s at n h (goes_on p q) = rw (q, next_place s at h, drop-drop)

over_place : (s : List ℕ) (at : ℕ) → length s < at → place_after s at ≡ at
unfolding place_after is_over
over_place s at h = rw (lt-ltb _ _ h)

pub later_cell : (s : List ℕ) (at n : ℕ) → get_or (cells_of (drop at s)) (suc n) [] ≡ get_or (cells_of (drop (place_after s at) s)) n []
unfolding cells_of
later_cell s at n =
    by_test
    (ltb (length s) at)
    (λ t.
    let h : length s < at = ltb-true (length s) at t in
    let over : length s ≤ at = omega arith in
    let none : drop at s ≡ [] = drop_of_length-le s over in
    ap (λ (l : List ℕ). get_or (cells_of l) (suc n) []) none
    ∙ sym (ap (λ (k : ℕ). get_or (cells_of (drop k s)) n []) (over_place s at h) ∙ ap (λ (l : List ℕ). get_or (cells_of l) n []) none ∙ blank_cells n))
    (λ t. later_behind s at n (ltb-false (length s) at t) (behind (drop at s)))
