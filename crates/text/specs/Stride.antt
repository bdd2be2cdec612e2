-- Rows of one width that follow one another, looked through for a number that stands at the same place of each.
use Rattle.std.specs.Prelude.{ℕ, zero, suc, ◌+◌, ◌*◌, ◌-◌, ◌/◌, ◌≤◌, ◌<◌, Bool, cond, ◌||◌, ◌⊎◌, ◌≡◌, List, eqb, length, drop}
use Rattle.text.specs.Number.{little_endian}

-- the sizes of a word in bytes
abbrev pub Sized : ℕ → Type 0
Sized size = (size ≡ 8) ⊎ ((size ≡ 4) ⊎ (size ≡ 2))

-- a row has bytes, and the word stands within it
pub record Rowed (width place size : ℕ) : Type 0 where
  pub sized : Sized size
  pub nonzero : 0 < width
  pub short : width ≤ 255
  pub room : place + size ≤ width

-- the row that begins at `at` has the word
abbrev pub has_word : (place size asked : ℕ) → List ℕ → ℕ → Bool
has_word place size asked s at = eqb (little_endian size (drop (at + place) s)) asked

-- of n rows from `at` on the first whose place passes the test; the place behind them where none does
unfoldable pub first_of : ℕ → (width : ℕ) → (ℕ → Bool) → ℕ → ℕ
first_of zero width test at = at
first_of (suc n) width test at = cond (test at) at (first_of n width test (at + width))

-- of the whole rows that fit from a place on the first that has the word; the place behind them where none has
unfoldable pub next_row : (width place size asked : ℕ) → List ℕ → ℕ → ℕ
next_row width place size asked s from = first_of ((length s - from) / width) width (has_word place size asked s) from

-- one of the four rows from a place on has the word
abbrev pub some_of_four : (width place size asked : ℕ) → List ℕ → ℕ → Bool
some_of_four width place size asked s at =
    has_word place size asked s at
    || has_word place size asked s (at + width)
    || has_word place size asked s (at + 2 * width)
    || has_word place size asked s (at + 3 * width)

-- looking through the rows from `to` on is looking through those from `from` on
pub record PassedTo (width place size asked : ℕ) (s : List ℕ) (from to : ℕ) : Type 0 where
  pub within : to ≤ length s
  pub left : next_row width place size asked s from ≡ next_row width place size asked s to
