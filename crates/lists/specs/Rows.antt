-- The rows of a list, and "some row with this key passes this test".
use Rattle.std.specs.Prelude.{ℕ, zero, suc, ◌-◌, ◌/◌, Bool, false, ◌&&◌, ◌||◌, List, [], ◌∷◌, length, take, drop}
use Rattle.text.specs.Word.{same}

-- the first n rows of `width` bytes
unfoldable pub chunks : ℕ → ℕ → List ℕ → List (List ℕ)
chunks zero width s = []
chunks (suc n) width s = take width s ∷ chunks n width (drop width s)

-- the whole rows that fit from a place on
unfoldable pub rows_from : ℕ → ℕ → List ℕ → List (List ℕ)
rows_from width at list = chunks ((length list - at) / width) width (drop at list)

-- the whole rows that fit behind the 9-byte head
abbrev pub rows_of : ℕ → List ℕ → List (List ℕ)
rows_of width list = rows_from width 9 list

-- some row passes the test
unfoldable pub some : (List ℕ → Bool) → List (List ℕ) → Bool
some test [] = false
some test (row ∷ rows) = test row || some test rows

-- the row's first k bytes are the key, and the row passes the test
abbrev pub keyed : ℕ → List ℕ → (List ℕ → Bool) → List ℕ → Bool
keyed k key test row = same key (take k row) && test row

-- some row of the list with this key passes the test
abbrev pub some_row : ℕ → ℕ → List ℕ → (List ℕ → Bool) → List ℕ → Bool
some_row width k key test list = some (keyed k key test) (rows_of width list)
