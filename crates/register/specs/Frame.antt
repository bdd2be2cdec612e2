-- The head of a register: mark TRN, 16-bit version, 32-bit rows used; and the rows that fit behind it.
-- A row has 74 bytes in version 1. In version 2 the day of the pair's last accepted line stands behind them, 32 bits.
use Rattle.std.specs.Prelude.{ℕ, ◌+◌, ◌*◌, ◌-◌, ◌/◌, min, Bool, cond, ◌&&◌, ◌||◌, List, leb, ltb, eqb, length, drop}
use Rattle.text.specs.Ascii.{ascii}
use Rattle.text.specs.Word.{starts_with}
use Rattle.text.specs.Number.{little_endian}

-- the bytes of a row that has n for the day
abbrev pub width : ℕ → ℕ
width n = 74 + n

-- where row k of such rows begins, counted from 0
abbrev pub place : ℕ → ℕ → ℕ
place n k = 9 + k * width n

-- the version that the head names
unfoldable pub version : List ℕ → ℕ
version register = little_endian 2 (drop 3 register)

-- the bytes that a row of this register has for the day
unfoldable pub day_width : List ℕ → ℕ
day_width register = cond (eqb (version register) 2) 4 0

-- the rows used
unfoldable pub used : List ℕ → ℕ
used register = little_endian 4 (drop 5 register)

-- the whole rows that fit after the 9-byte head, at most 4,294,967,295
unfoldable pub capacity : List ℕ → ℕ
capacity register = min ((length register - 9) / width (day_width register)) 4294967295

-- what refusal 6 does not refuse: at least 9 bytes, mark right, version 1 or 2, no more rows used than fit
unfoldable pub framed : List ℕ → Bool
framed register =
    leb 9 (length register)
    && starts_with (ascii "TRN") register
    && (eqb (version register) 1 || eqb (version register) 2)
    && leb (used register) (capacity register)

-- as many rows used as fit in a framed register
unfoldable pub full : List ℕ → Bool
full register = framed register && eqb (used register) (capacity register)

-- row k of a framed register is one of those used
unfoldable pub is_used : List ℕ → ℕ → Bool
is_used register k = framed register && ltb k (used register)

-- the bytes of a row of a framed register; 0 of one that is not framed
unfoldable pub row_width : List ℕ → ℕ
row_width register = cond (framed register) (width (day_width register)) 0
