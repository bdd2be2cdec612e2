-- From the tables of a split line to its cells.
use mathlib.Core.Path.{◌≡◌, refl, sym, ap}
use mathlib.Core.List.{List, [], ◌∷◌, ◌++◌, map}
use Prim.Native.Nat.{ℕ, zero, suc, ◌+◌, ◌-◌, ◌≤◌, ◌<◌}
use native.Mathlib.Omega.{arith}
use borrow.Author.Tests.{eq-eqb}
use lib.Dec.{eqb}
use lib.ListN.{length, get_or, take, drop, get_or-eq_default}
use Rattle.text.proofs.Bools.{by_test}
use Rattle.std.specs.Prelude.{Option, None, Some}
use Rattle.cells.specs.declared.line.SplitLine.{SplitLine}
use Rattle.cells.specs.Cells.{is_bar, bars_of, first_cell, later_cells, cells_of, cell}
use Rattle.cells.specs.Split.{bar_places, starts_of, ends_of, Tabled}
use Rattle.cells.specs.Parted.{Places, split_of, in_places}
use Rattle.cells.proofs.CellLaws.{cells_count}

-- a cell stands from start to end: in order, within the line, and the part between is the cell
pub record Placed (line : List ℕ) (start end : ℕ) (part : List ℕ) : Type 0 where
  pub ordered : start ≤ end
  pub within : end ≤ length line
  pub part_is : take (end - start) (drop start line) ≡ part

-- the same, the line's first byte being at place n
record PlacedFrom (n : ℕ) (s : List ℕ) (start end : ℕ) (part : List ℕ) : Type 0 where
  behind : n ≤ start
  ordered : start ≤ end
  within : end ≤ n + length s
  part_is : take (end - start) (drop (start - n) s) ≡ part

from_start : {line part : List ℕ} {start end : ℕ} → PlacedFrom 0 line start end part → Placed line start end part
from_start {start = start} p =
    let z : start - 0 ≡ start = omega arith in
    record { ordered = p.ordered; within = omega (arith, p.within); part_is = rw z at p.part_is }

-- a byte in front of the line, before the cell or as its first
one_before : {n b start end : ℕ} {s part : List ℕ} → PlacedFrom (suc n) s start end part → PlacedFrom n (b ∷ s) start end part
one_before {n} {b} {start} p =
    let k : start - n ≡ suc (start - suc n) = omega arith in
    record { behind = omega arith; ordered = p.ordered; within = omega arith; part_is = rw k p.part_is }

one_more : {n b end : ℕ} {s part : List ℕ} → PlacedFrom (suc n) s (suc n) end part → PlacedFrom n (b ∷ s) n end (b ∷ part)
one_more {n} {b} {end} p =
    let k : end - n ≡ suc (end - suc n) = omega arith in
    let z : n - n ≡ 0 = omega arith in
    let y : suc n - suc n ≡ 0 = omega arith in
    record { behind = omega arith; ordered = omega arith; within = omega arith; part_is = rw (k, z) (ap (λ (l : List ℕ). b ∷ l) (rw y at p.part_is)) }

blank_at : (n : ℕ) (s : List ℕ) → PlacedFrom n s n n []
blank_at n s =
    let z : n - n ≡ 0 = omega arith in
    record { behind = omega arith; ordered = omega arith; within = omega arith; part_is = rw z }

places :
    (n m : ℕ) (s : List ℕ) → m ≡ n + length s → (f : ℕ) → f ≤ bars_of s
    → PlacedFrom n s (get_or (n ∷ map suc (bar_places n s)) f 0) (get_or (bar_places n s ++ (m ∷ [])) f 0) (get_or (first_cell s ∷ later_cells s) f [])
places n m [] e zero h = let k : m ≡ n = omega arith in rw k (blank_at n [])
places n m [] e (suc f) h = absurd (omega arith)
places n m (b ∷ s) e zero h =
    by_test (is_bar b) (λ t. rw t (blank_at n (b ∷ s))) (λ t. rw t (one_more (places (suc n) m s (omega arith) zero (omega arith))))
places n m (b ∷ s) e (suc f) h =
    by_test
    (is_bar b)
    (λ t.
    let g : suc f ≤ suc (bars_of s) = rw t at h in
    rw t (one_before (places (suc n) m s (omega arith) f (omega arith))))
    (λ t.
    let g : suc f ≤ bars_of s = rw t at h in
    rw t (one_before (places (suc n) m s (omega arith) (suc f) g)))

module _ {line starts ends : List ℕ} (tabled : Tabled line starts ends) where
  pub tabled_at : (f : ℕ) → 1 ≤ f → f ≤ 65 → Placed line (get_or starts (f - 1) 0) (get_or ends (f - 1) 0) (cell line f)
  unfolding cell cells_of starts_of ends_of
  tabled_at zero l h = absurd (omega arith)
  tabled_at (suc f) l h =
      let k : suc f - 1 ≡ f = omega arith in
      let p = places 0 (length line) line (omega arith) f (omega (arith, tabled.count)) in
      rw (k, tabled.starts_are, tabled.ends_are) (from_start p)

  pub no_such_cell : (f : ℕ) → 65 < f → [] ≡ cell line f
  unfolding cell
  no_such_cell zero h = absurd (omega arith)
  no_such_cell (suc f) h = sym (get_or-eq_default (cells_of line) [] (omega (arith, cells_count line, tabled.count)))

pub no_cell_zero : (line : List ℕ) (f : ℕ) → f < 1 → [] ≡ cell line f
unfolding cell
no_cell_zero line zero h = refl
no_cell_zero line (suc f) h = absurd (omega arith)

-- what the answer of a split says of the line and its tables
abbrev line_in : Option Places → List ℕ
line_in None = []
line_in (Some p) = p.line

pub same_line : (line : List ℕ) (t : SplitLine) → in_places (Some t) ≡ split_of line → t.line.now ≡ line
unfolding split_of
same_line line t split =
    by_test
    (eqb (bars_of line) 64)
    (λ y. ap line_in (rw y at split))
    (λ n. let e : in_places (Some t) ≡ None = rw n at split in cc)

pub split_whole : (line : List ℕ) (t : SplitLine) → in_places (Some t) ≡ split_of line → Tabled line t.starts t.ends
split_whole line t split = rw (same_line line t split) at t.tabled

pub split_not : (line : List ℕ) → in_places None ≡ split_of line → bars_of line ≡ 64 → ⊥
unfolding split_of
split_not line split b = let e : in_places None ≡ Some (record { line = line; starts = starts_of line; ends = ends_of line }) = rw (eq-eqb _ _ b) at split in cc

-- a line of 64 bars with tables of its own is what a split of it is
pub split_yes : (line : List ℕ) (t : SplitLine) → t.line.now ≡ line → in_places (Some t) ≡ split_of line
unfolding split_of
split_yes line t e =
    let b : bars_of line ≡ 64 = rw e at t.tabled.count in
    rw (eq-eqb _ _ b) (ap Some (λ j. record { line = e j; starts = (rw e at t.tabled.starts_are) j; ends = (rw e at t.tabled.ends_are) j }))
