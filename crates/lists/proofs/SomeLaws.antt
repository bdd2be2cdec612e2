-- "Some row with this key passes this test": what it says, and that the order and the repetition of rows change nothing.
use mathlib.Core.Path.{◌≡◌, refl, sym}
use mathlib.Core.Bool.{Bool, true, false, true≢false, or-true}
use mathlib.Core.Logic.{⊎_elim}
use mathlib.Core.List.Memᴰ
use mathlib.Core.List.{List, [], ◌∷◌, Memᴰ}
use Prim.Native.Nat.{ℕ}
use lib.ListN.{take}
use Rattle.text.specs.Word.{same}
use Rattle.text.proofs.Bools.{and_left, and_right, or_cases}
use Rattle.lists.specs.Rows.{rows_of, some, keyed, some_row}

abbrev pub Row : Type 0
Row = List ℕ

-- a row that passes, among the rows
pub record Passes (test : Row → Bool) (rows : List Row) : Type 0 where
  pub row : Row
  pub among : Memᴰ row rows
  pub good : test row ≡ true

module _ (test : Row → Bool) where
  pub some_row_lem : (rows : List Row) → some test rows ≡ true → Passes test rows
  unfolding some
  some_row_lem [] e = absurd (true≢false (sym e))
  some_row_lem (row ∷ rows) e =
      ⊎_elim
      (λ h. record { row = row; among = Memᴰ.head refl; good = h })
      (λ h. let p = some_row_lem rows h in record { row = p.row; among = Memᴰ.tail p.among; good = p.good })
      (or_cases (test row) (some test rows) e)

  pub row_some : (rows : List Row) (row : Row) → Memᴰ row rows → test row ≡ true → some test rows ≡ true
  unfolding some
  row_some [] row m e = absurd (Memᴰ.not-nil m)
  row_some (r ∷ rows) row m e =
      ⊎_elim
      (λ h. rw (← h, e))
      (λ h. rw (row_some rows row h e, or-true (test r)))
      (Memᴰ.cases_cons m)

both_ways : (a b : Bool) → (a ≡ true → b ≡ true) → (b ≡ true → a ≡ true) → a ≡ b
both_ways true b f g = sym (f refl)
both_ways false true f g = g refl
both_ways false false f g = refl

-- each row of the first stands in the second too
abbrev pub Within : List Row → List Row → Type 0
Within rows more = (row : Row) → Memᴰ row rows → Memᴰ row more

-- for any width, key and test: of any look-up
module _ (width k : ℕ) (key : List ℕ) (test : Row → Bool) (list more : List ℕ) where
  -- what some row of a list says, a list says that has those rows and others
  pub some_mono : Within (rows_of width list) (rows_of width more) → some_row width k key test list ≡ true → some_row width k key test more ≡ true
  some_mono w e =
      let p = some_row_lem (keyed k key test) (rows_of width list) e in
      row_some (keyed k key test) (rows_of width more) p.row (w p.row p.among) p.good

-- what passes a test passes a weaker one
pub some_weaker : (width k : ℕ) (key : List ℕ) (test weaker : Row → Bool) (list : List ℕ) → ((row : Row) → test row ≡ true → weaker row ≡ true)
    → some_row width k key test list ≡ true → some_row width k key weaker list ≡ true
some_weaker width k key test weaker list w e =
    let p = some_row_lem (keyed k key test) (rows_of width list) e in
    let mine = same key (take k p.row) in
    row_some (keyed k key weaker) (rows_of width list) p.row p.among
    (rw (and_left mine _ p.good, w p.row (and_right mine _ p.good)))

-- two lists of the same rows, in any order and number, say the same
pub some_order : (width k : ℕ) (key : List ℕ) (test : Row → Bool) (list other : List ℕ)
    → Within (rows_of width list) (rows_of width other) → Within (rows_of width other) (rows_of width list)
    → some_row width k key test list ≡ some_row width k key test other
some_order width k key test list other there back =
    both_ways (some_row width k key test list) (some_row width k key test other) (some_mono width k key test list other there) (some_mono width k key test other list back)
