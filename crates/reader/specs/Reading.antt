-- The reader of the cells of a line: what a step from a place hands back.
use Rattle.std.specs.Prelude.{ℕ, zero, suc, ◌+◌, ◌≡◌, Bool, cond, List, [], ◌∷◌, ltb, length, drop}
use Rattle.std.specs.Borrow.{Bor}
use Rattle.cells.specs.Cells.{first_cell}
use Rattle.reader.specs.declared.Reader.{Reader}
use Rattle.reader.specs.declared.StepFrom.{StepFrom}

-- the place is over the length: there is no cell left
unfoldable pub is_over : List ℕ → ℕ → Bool
is_over s at = ltb (length s) at

-- the cell that starts at a place; blank where none is left
unfoldable pub cell_from : List ℕ → ℕ → List ℕ
cell_from s at = first_cell (drop at s)

-- the place after its bar, and after the last cell length + 1; where none is left the place stays
unfoldable pub place_after : List ℕ → ℕ → ℕ
place_after s at = cond (is_over s at) at (at + length (cell_from s at) + 1)

-- a reader before its first step
abbrev pub begun : Bor (List ℕ) → Reader
begun line = record { line = line; at = 0 }

-- what a step hands back
pub record Stepped (line : List ℕ) (at : ℕ) (cell : List ℕ) (next : ℕ) (done : Bool) : Type 0 where
  pub hands : cell ≡ cell_from line at
  pub places : next ≡ place_after line at
  pub ends : done ≡ is_over line at

-- the same in numbers
abbrev pub step_from : List ℕ → ℕ → StepFrom
step_from s at = record { length = length (cell_from s at); next = place_after s at; done = is_over s at }

-- the cells that n steps in turn hand back, up to a step that is done
unfoldable pub handed : ℕ → List ℕ → ℕ → List (List ℕ)
handed zero s at = []
handed (suc n) s at = cond (is_over s at) [] (cell_from s at ∷ handed n s (place_after s at))
