-- What a line needs.
use Rattle.std.specs.Prelude.{ℕ, Bool, false, cond, ◌||◌, List, [], ◌∷◌, map, eqb}
use Rattle.text.specs.Number.{count_from}

-- n is one of the numbers
abbrev pub is_one_of : List ℕ → ℕ → Bool
is_one_of [] n = false
is_one_of (m ∷ ms) n = eqb n m || is_one_of ms n

-- NEW needs
abbrev pub new_needs : List ℕ
new_needs = 1 ∷ 2 ∷ 4 ∷ 5 ∷ 6 ∷ 7 ∷ 16 ∷ 25 ∷ 28 ∷ 29 ∷ 30 ∷ 33 ∷ 36 ∷ 59 ∷ 65 ∷ []

-- CXL needs, and no other cell of it is read
abbrev pub cxl_needs : List ℕ
cxl_needs = 1 ∷ 2 ∷ 4 ∷ 6 ∷ []

-- the 65 cells, a digit each: 1 where the cell is one of the numbers, else 0
abbrev pub marks : List ℕ → List ℕ
marks needs = map (λ f. cond (is_one_of needs f) 49 48) (count_from 1 65)
