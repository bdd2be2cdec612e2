-- The frame of a list: a three-letter mark, 16-bit version 1, 32-bit row count, rows.
use Rattle.std.specs.Prelude.{ℕ, ◌+◌, ◌*◌, Bool, ◌&&◌, List, leb, eqb, length, drop}
use Rattle.text.specs.Word.{starts_with}
use Rattle.text.specs.Number.{little_endian}
use Rattle.lists.specs.declared.frame.Mark.{Mark}
use Rattle.lists.specs.Table.{letters_of, row_width}

abbrev pub version_of : List ℕ → ℕ
version_of list = little_endian 2 (drop 3 list)

abbrev pub count_of : List ℕ → ℕ
count_of list = little_endian 4 (drop 5 list)

-- not under 9 bytes, the mark, version 1, and no other length than 9 + count x row
unfoldable pub framed_as : List ℕ → ℕ → List ℕ → Bool
framed_as letters width list = leb 9 (length list) && starts_with letters list && eqb (version_of list) 1 && eqb (length list) (9 + count_of list * width)

abbrev pub framed : Mark → List ℕ → Bool
framed mark list = framed_as (letters_of mark) (row_width mark) list
