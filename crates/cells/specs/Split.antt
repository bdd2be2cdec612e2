-- A line of 65 cells by the places where they start and end.
use Rattle.std.specs.Prelude.{ℕ, suc, ◌≡◌, cond, List, [], ◌∷◌, ◌++◌, map, length}
use Rattle.cells.specs.Cells.{is_bar, bars_of}

-- the places of the bars, the first byte being at place n
abbrev pub bar_places : ℕ → List ℕ → List ℕ
bar_places n [] = []
bar_places n (b ∷ s) = cond (is_bar b) (n ∷ bar_places (suc n) s) (bar_places (suc n) s)

-- a cell starts where the line does, or behind a bar; it ends at a bar, or where the line does
unfoldable pub starts_of : List ℕ → List ℕ
starts_of s = 0 ∷ map suc (bar_places 0 s)

unfoldable pub ends_of : List ℕ → List ℕ
ends_of s = bar_places 0 s ++ (length s ∷ [])

-- the two tables are those of a line of 65 cells
pub record Tabled (line starts ends : List ℕ) : Type 0 where
  pub count : bars_of line ≡ 64
  pub starts_are : starts ≡ starts_of line
  pub ends_are : ends ≡ ends_of line
