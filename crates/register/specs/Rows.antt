-- A register as rows, and a pair among them.
use Rattle.std.specs.Prelude.{ℕ, zero, suc, ◌+◌, cond, List, [], ◌∷◌, Option, None, Some, eqb, take, drop, get_or}
use Rattle.text.specs.Word.{same}
use Rattle.text.specs.Number.{little_endian}
use Rattle.register.specs.Frame.{width, place, day_width, used, framed, is_used}
use Rattle.register.specs.declared.rows.Standing.{Standing}
use Rattle.register.specs.declared.rows.Standing.TheVariants.{Absent, Live, Cancelled}

-- the 73 bytes of a pair, and what is kept of it: the state, then n bytes for the day
pub record Row : Type 0 where
  pub key : List ℕ
  pub value : List ℕ

-- the row that s begins with
abbrev pub row_in : ℕ → List ℕ → Row
row_in n s = record { key = take 73 s; value = take (1 + n) (drop 73 s) }

-- the first k rows of s
unfoldable pub rows_in : ℕ → ℕ → List ℕ → List Row
rows_in n zero s = []
rows_in n (suc k) s = row_in n s ∷ rows_in n k (drop (width n) s)

-- the used rows
abbrev pub rows_of : List ℕ → List Row
rows_of register = rows_in (day_width register) (used register) (drop 9 register)

-- the number of the first row that is the pair's, where the first of the rows has number i; none where there is no such row
unfoldable pub own_from : ℕ → List Row → List ℕ → Option ℕ
own_from i [] pair = None
own_from i (row ∷ rows) pair = cond (same pair row.key) (Some i) (own_from (i + 1) rows pair)

-- what the first row that is the pair's keeps of it; nothing where there is none
unfoldable pub look : List Row → List ℕ → List ℕ
look [] pair = []
look (row ∷ rows) pair = cond (same pair row.key) row.value (look rows pair)

-- the state of a row whose pair stands so: 1 live, and 2 is what cancelling writes; an absent pair has no row, and 0 is written nowhere
abbrev pub state_byte : Standing → ℕ
state_byte Absent = 0
state_byte Live = 1
state_byte Cancelled = 2

-- 1 live, else cancelled
abbrev pub state_of : ℕ → Standing
state_of state = cond (eqb state (state_byte Live)) Live Cancelled

abbrev pub stands_as : List ℕ → Standing
stands_as [] = Absent
stands_as (state ∷ more) = state_of state

-- a register that is not framed holds no pair
unfoldable pub first_row : List ℕ → List ℕ → Option ℕ
first_row register pair = cond (framed register) (own_from 0 (rows_of register) pair) None

unfoldable pub standing : List ℕ → List ℕ → Standing
standing register pair = cond (framed register) (stands_as (look (rows_of register) pair)) Absent

-- the day that is kept of a pair, behind its state: 0 in version 1, which keeps none
unfoldable pub day_of : List ℕ → List ℕ → ℕ
day_of register pair = little_endian (day_width register) (drop 1 (look (rows_of register) pair))

-- by the state of the used row of that number, where it was found
unfoldable pub standing_at : List ℕ → Option ℕ → Standing
standing_at register None = Absent
standing_at register (Some k) = cond (is_used register k) (state_of (get_or register (place (day_width register) k + 73) 0)) Absent
