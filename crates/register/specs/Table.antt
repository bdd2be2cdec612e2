-- The rows as a table of pairs, for what is said of a register over many lines.
use Rattle.std.specs.Prelude.{ℕ, ◌+◌, Bool, false, cond, ◌||◌, List, [], ◌∷◌}
use Rattle.text.specs.Word.{same}
use Rattle.register.specs.Rows.{Row}

-- some row is the pair's
unfoldable pub holds : List Row → List ℕ → Bool
holds [] pair = false
holds (row ∷ rows) pair = same pair row.key || holds rows pair

-- how many rows are the pair's
unfoldable pub rows_with : List Row → List ℕ → ℕ
rows_with [] pair = 0
rows_with (row ∷ rows) pair = cond (same pair row.key) 1 0 + rows_with rows pair

-- the rows with the pair's row keeping the value, in place or as the next row
unfoldable pub put_row : List Row → List ℕ → List ℕ → List Row
put_row [] pair value = record { key = pair; value = value } ∷ []
put_row (row ∷ rows) pair value =
    cond (same pair row.key) (record { key = row.key; value = value } ∷ rows) (row ∷ put_row rows pair value)
