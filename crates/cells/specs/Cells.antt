-- The cells of a line are what its bars part; a line without bytes is one blank cell.
use Rattle.std.specs.Prelude.{ℕ, zero, suc, Bool, cond, List, [], ◌∷◌, ◌++◌, get_or}
use Rattle.text.specs.Class.{is}

abbrev pub is_bar : ℕ → Bool
is_bar b = is "|" b

-- how many bars a line has
abbrev pub bars_of : List ℕ → ℕ
bars_of [] = 0
bars_of (b ∷ s) = cond (is_bar b) (suc (bars_of s)) (bars_of s)

-- what stands before the first bar
abbrev pub first_cell : List ℕ → List ℕ
first_cell [] = []
first_cell (b ∷ s) = cond (is_bar b) [] (b ∷ first_cell s)

-- a cell behind each bar
abbrev pub later_cells : List ℕ → List (List ℕ)
later_cells [] = []
later_cells (b ∷ s) = cond (is_bar b) (first_cell s ∷ later_cells s) (later_cells s)

unfoldable pub cells_of : List ℕ → List (List ℕ)
cells_of s = first_cell s ∷ later_cells s

-- cell f, counted from 1; blank where there is none
unfoldable pub cell : List ℕ → ℕ → List ℕ
cell s zero = []
cell s (suc f) = get_or (cells_of s) f []

-- the cells joined by bars again
abbrev pub behind_bars : List (List ℕ) → List ℕ
behind_bars [] = []
behind_bars (c ∷ cells) = 124 ∷ (c ++ behind_bars cells)

unfoldable pub joined : List (List ℕ) → List ℕ
joined [] = []
joined (c ∷ cells) = c ++ behind_bars cells
