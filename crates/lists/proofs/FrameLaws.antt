-- The frame: sizes that fit, and what a framed list's count says of its rows.
use mathlib.Core.Path.{◌≡◌, ◌∙◌, ap}
use mathlib.Core.Bool.{true, false, ◌&&◌}
use mathlib.Core.List.{List, [], ◌∷◌, ◌++◌}
use Prim.Native.Nat.{ℕ, ◌+◌, ◌*◌, ◌-◌, ◌/◌, ◌≤◌, ◌<◌}
use native.Mathlib.Nat.{mul-div_cancel}
use borrow.Author.Tests.{eqb-true, le-leb, lt-leb}
use native.Mathlib.Omega.{arith}
use lib.Dec.{leb, eqb, lit<, lit≤}
use lib.ListN.{length, get_or, drop}
use Rattle.text.specs.Word.{starts_with}
use Rattle.text.specs.Number.{little_endian}
use Rattle.text.proofs.Bools.{and_right}
use Rattle.text.proofs.LoadLaws.{Bytes, bytes_none, bytes_more, marked}
use Rattle.lists.specs.declared.frame.Mark.{Mark}
use Rattle.lists.specs.declared.frame.Mark.TheVariants.{Lei, Cty, Ccy, Ven, Ins}
use Rattle.lists.specs.Frame.{version_of, count_of, framed_as, framed}
use Rattle.lists.specs.Rows.{rows_from, rows_of}
use Rattle.lists.proofs.RowLaws.{chunks_count}
use Rattle.lists.specs.Table.{letters_of, key_width, row_width}

four : {a b c : ℕ} → a < 256 → b < 256 → c < 256 → Bytes (a ∷ b ∷ c ∷ 1 ∷ [])
four p q r = bytes_more p (bytes_more q (bytes_more r (bytes_more (lit< tt) bytes_none)))

-- what the table says of every list
pub record Widths (key row : ℕ) : Type 0 where
  pub nonzero : 0 < row
  pub room : key ≤ row

pub widths : (mark : Mark) → Widths (key_width mark) (row_width mark)
widths Lei = record { nonzero = lit< tt; room = lit≤ tt }
widths Cty = record { nonzero = lit< tt; room = lit≤ tt }
widths Ccy = record { nonzero = lit< tt; room = lit≤ tt }
widths Ven = record { nonzero = lit< tt; room = lit≤ tt }
widths Ins = record { nonzero = lit< tt; room = lit≤ tt }

-- the letters of every mark are three bytes
letters : (mark : Mark) (list : List ℕ) → Bytes list → 5 ≤ length list
    → (eqb (little_endian 4 list) (little_endian 4 (letters_of mark ++ (1 ∷ []))) && eqb (get_or list 4 0) 0) ≡ (starts_with (letters_of mark) list && eqb (version_of list) 1)
letters Lei list = marked 76 69 73 list (four (lit< tt) (lit< tt) (lit< tt))
letters Cty list = marked 67 84 89 list (four (lit< tt) (lit< tt) (lit< tt))
letters Ccy list = marked 67 67 89 list (four (lit< tt) (lit< tt) (lit< tt))
letters Ven list = marked 86 69 78 list (four (lit< tt) (lit< tt) (lit< tt))
letters Ins list = marked 73 78 83 list (four (lit< tt) (lit< tt) (lit< tt))

-- the frame by the head's numbers
module _ (mark : Mark) (list : List ℕ) where
  pub framed_short : length list < 9 → false ≡ framed mark list
  unfolding framed_as
  framed_short h = rw (lt-leb 9 (length list) h)

  pub framed_by :
      Bytes list → 9 ≤ length list → {first given fifth count width : ℕ} → first ≡ little_endian 4 list → given ≡ little_endian 4 (letters_of mark ++ (1 ∷ []))
      → fifth ≡ get_or list 4 0 → count ≡ count_of list → width ≡ row_width mark
      → (eqb first given && eqb fifth 0 && eqb (length list) (9 + count * width)) ≡ framed mark list
  unfolding framed_as
  framed_by bytes h e f g counts wide =
      rw (e, f, g, counts, wide, le-leb 9 (length list) h) (ap (λ t. t && eqb (length list) (9 + count_of list * row_width mark)) (letters mark list bytes (omega arith)))

counted : (letters : List ℕ) (width : ℕ) (list : List ℕ) → 0 < width → framed_as letters width list ≡ true → length (rows_of width list) ≡ count_of list
unfolding framed_as rows_from
counted letters width list wide e =
    let head = leb 9 (length list) && starts_with letters list && eqb (version_of list) 1 in
    let sized = eqb-true (length list) (9 + count_of list * width) (and_right head (eqb (length list) (9 + count_of list * width)) e) in
    let behind : length list - 9 ≡ count_of list * width = omega (arith, sized) in
    chunks_count ((length list - 9) / width) width (drop 9 list) ∙ rw behind (mul-div_cancel (count_of list) wide)

-- the whole rows that fit behind the head of a framed list are as many as its head counts
pub rows_counted : (mark : Mark) (list : List ℕ) → framed mark list ≡ true → length (rows_of (row_width mark) list) ≡ count_of list
rows_counted mark list e = counted (letters_of mark) (row_width mark) list (widths mark).nonzero e
