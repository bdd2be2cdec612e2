-- What the stores of the code leave.
use mathlib.Core.Logic.{◌⊎◌, inl, inr}
use mathlib.Core.Path.{◌≡◌, ◌∙◌, sym, ap}
use mathlib.Core.Bool.{Bool, true, false, not, ◌&&◌, ◌||◌}
use mathlib.Core.List.{List, ◌∷◌, ◌++◌}
use Prim.Native.Nat.{ℕ, suc, ◌+◌, ◌*◌, ◌-◌, ◌≤◌, ◌<◌}
use native.Mathlib.Omega.{arith}
use borrow.Author.Tests.{not-true}
use lib.Dec.{eqb}
use lib.ListN.{length, set}
use lib.Seq.{sets}
use Rattle.text.proofs.Bools.{and_left, and_right}
use Rattle.register.specs.Frame.{day_width, used, capacity, framed, full, is_used, row_width}
use Rattle.register.specs.Written.{little_bytes, restated, appended}
use Rattle.register.proofs.Stores.{sets_append}
use Rattle.register.proofs.FrameLaws.{framed_is, capacity_small}
use Rattle.register.proofs.WidthLaws.{narrow, RowAt, row_at, told_open}
use Rattle.register.proofs.RowLaws.{used_row}
use Rattle.register.proofs.PutLaws.{not_full}

-- what a row keeps, at its place: the state, and where rows have 78 bytes the day
module _ {w : ℕ} (l : List ℕ) (at state day : ℕ) where
  pub day_stored : w ≡ 78 → sets (set l at state) (at + 1) (little_bytes 4 day) ≡ sets l at (state ∷ little_bytes (w - 74) day)
  day_stored e =
      let one : at + 1 ≡ suc at = omega arith in
      rw (e, one)

  pub state_stored : (w ≡ 74) ⊎ (w ≡ 78) → (w ≡ 78 → ⊥) → set l at state ≡ sets l at (state ∷ little_bytes (w - 74) day)
  state_stored known h = rw (narrow known h)

pub value_room : {w at size : ℕ} → (w ≡ 74) ⊎ (w ≡ 78) → at + (w - 73) ≤ size → at < size
value_room (inl e) h = omega arith
value_room (inr e) h = omega arith

-- the bytes of a row behind its pair
pub value_within : {w : ℕ} {register : List ℕ} {k : ℕ} → RowAt w register k → 9 + k * w + 73 + (w - 73) ≤ length register
value_within {w} {register} {k} row = go row.known
  where
    go : (w ≡ 74) ⊎ (w ≡ 78) → 9 + k * w + 73 + (w - 73) ≤ length register
    go (inl e) = omega (arith, row.within)
    go (inr e) = omega (arith, row.within)

-- the next row, and that the head can count it
pub record Room (w : ℕ) (register : List ℕ) (count : ℕ) : Type 0 where
  pub row : RowAt w register count
  pub number : count < 4294967295

module _ (register : List ℕ) where
  pub restated_not : (k : ℕ) (value : List ℕ) → is_used register k ≡ false → register ≡ restated register k value
  unfolding restated
  restated_not k value e = rw e

  pub restated_stored :
      {w : ℕ} (k state day : ℕ) → w ≡ row_width register → is_used register k ≡ true
      → sets register (9 + k * w + 73) (state ∷ little_bytes (w - 74) day) ≡ restated register k (state ∷ little_bytes (day_width register) day)
  unfolding restated
  restated_stored {w} k state day told e =
      let row : RowAt w register k = used_row w register k told e in
      rw e (λ i. sets register (row.place_is i + 73) (state ∷ little_bytes (row.day_is i) day))

  pub appended_not : (pair value : List ℕ) → (framed register && not (full register)) ≡ false → register ≡ appended register pair value
  unfolding appended
  appended_not pair value e = rw e

  module _ (e : (framed register && not (full register)) ≡ true) {w count : ℕ} (told : w ≡ row_width register) (c : count ≡ used register) where
    pub room : Room w register count
    room =
        let t : framed register ≡ true = and_left (framed register) (not (full register)) e in
        let h : full register ≡ false = not-true (full register) (and_right (framed register) (not (full register)) e) in
        let few : count < capacity register = omega (arith, c, not_full (framed_is register t) h) in
        record { row = row_at w register count told t few; number = omega (arith, capacity_small register) }

    pub appended_stored :
        {bytes row left : List ℕ} (pair : List ℕ) (state day : ℕ) → length pair ≡ 73 → bytes ≡ sets register (9 + count * w) pair
        → row ≡ sets bytes (9 + count * w + 73) (state ∷ little_bytes (w - 74) day) → left ≡ sets row 5 (little_bytes 4 (count + 1))
        → left ≡ appended register pair (state ∷ little_bytes (day_width register) day)
    unfolding appended
    appended_stored {bytes} {row} {left} pair state day h first second third =
        let value : List ℕ = state ∷ little_bytes (w - 74) day in
        let whole : row ≡ sets register (9 + count * w) (pair ++ value) =
        second
        ∙ ap (λ l. sets l (9 + count * w + 73) value) first
        ∙ ap (λ m. sets (sets register (9 + count * w) pair) (9 + count * w + m) value) (sym h)
        ∙ sym (sets_append register (9 + count * w) pair value) in
        third
        ∙ ap
        (λ l. sets l 5 (little_bytes 4 (count + 1)))
        (whole ∙ (λ i. sets register (room.row.place_is i) (pair ++ (state ∷ little_bytes (room.row.day_is i) day))))
        ∙ rw (e, c)

-- where the code goes on to write, the register is framed and not full
pub open_row :
    (register : List ℕ) {w : ℕ} {filled : Bool} → w ≡ row_width register → filled ≡ full register → (eqb w 0 || filled) ≡ false
    → (framed register && not (full register)) ≡ true
open_row register {w} told fills h = sym (told_open register told) ∙ ap (λ f. not (eqb w 0 || f)) (sym fills) ∙ ap not h

pub free_row :
    {w : ℕ} {register : List ℕ} {filled : Bool} {count : ℕ} → w ≡ row_width register → filled ≡ full register → (eqb w 0 || filled) ≡ false → count ≡ used register
    → Room w register count
free_row {register = register} told fills h counts = room register (open_row register told fills h) told counts

-- and elsewhere it stays as it is
pub no_row :
    (register pair value : List ℕ) {w : ℕ} {filled : Bool} → w ≡ row_width register → filled ≡ full register → (eqb w 0 || filled) ≡ true
    → register ≡ appended register pair value
no_row register pair value {w} told fills h = appended_not register pair value (sym (told_open register told) ∙ ap (λ f. not (eqb w 0 || f)) (sym fills) ∙ ap not h)
