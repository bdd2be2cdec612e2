-- What a framed register has, and what stays framed.
use mathlib.Core.Path.{◌≡◌, ◌∙◌, sym, ap}
use mathlib.Core.Bool.{Bool, true, ◌&&◌, ◌||◌}
use mathlib.Core.List.{List}
use Prim.Native.Nat.{ℕ, suc, ◌+◌, ◌*◌, ◌-◌, ◌/◌, ◌≤◌, ◌<◌}
use native.Mathlib.Nat.{suc-mul, mul-le-mul_right, div-mul-le_self, le-div_iff_mul-le, min-le_left, min-le_right}
use native.Mathlib.Omega.{arith}
use borrow.Author.Tests.{leb-true, le-leb}
use lib.Dec.{leb, eqb, lit≤}
use lib.ListN.{length, take, drop, length-drop}
use lib.Seq.{take-take}
use Rattle.text.specs.Ascii.{ascii}
use Rattle.text.specs.Word.{starts_with, same}
use Rattle.text.proofs.Bools.{and_left, and_right}
use Rattle.register.specs.Frame.{width, place, version, day_width, used, capacity, framed}
use Rattle.register.proofs.Words.{starts_take, little_head}

pub record Framed (register : List ℕ) : Type 0 where
  pub head : 9 ≤ length register
  pub mark : starts_with (ascii "TRN") register ≡ true
  pub known : (eqb (version register) 1 || eqb (version register) 2) ≡ true
  pub fits : used register ≤ capacity register

pub framed_is : (register : List ℕ) → framed register ≡ true → Framed register
unfolding framed
framed_is register h =
    let long : Bool = leb 9 (length register) in
    let marked : Bool = starts_with (ascii "TRN") register in
    let right : Bool = eqb (version register) 1 || eqb (version register) 2 in
    let few : Bool = leb (used register) (capacity register) in
    let three : (long && marked && right) ≡ true = and_left (long && marked && right) few h in
    let two : (long && marked) ≡ true = and_left (long && marked) right three in
    record {
      head = leb-true _ _ (and_left long marked two);
      mark = and_right long marked two;
      known = and_right (long && marked) right three;
      fits = leb-true _ _ (and_right (long && marked && right) few h);
    }

pub is_framed : {register : List ℕ} → Framed register → framed register ≡ true
unfolding framed
is_framed f = rw (le-leb _ _ f.head, f.mark, f.known, le-leb _ _ f.fits)

pub capacity_small : (register : List ℕ) → capacity register ≤ 4294967295
unfolding capacity
capacity_small register = min-le_right ((length register - 9) / width (day_width register)) 4294967295

-- each row that the capacity counts stands within the bytes
pub row_within : (register : List ℕ) (k : ℕ) → 9 ≤ length register → k < capacity register → place (day_width register) k + width (day_width register) ≤ length register
unfolding capacity
row_within register k h l =
    let n : ℕ = day_width register in
    let m : suc k ≤ (length register - 9) / width n = omega (arith, min-le_left ((length register - 9) / width n) 4294967295) in
    omega (arith, suc-mul k (width n), mul-le-mul_right (width n) m, div-mul-le_self (length register - 9) (width n))

-- a register whose length and first 5 bytes are another's has its version, and room for as many rows
module _ (register left : List ℕ) (same_head : take 5 left ≡ take 5 register) where
  pub version_kept : version left ≡ version register
  unfolding version
  version_kept = little_head 3 2 left register same_head

  pub day_kept : day_width left ≡ day_width register
  unfolding day_width
  day_kept = rw version_kept

  module _ (same_length : length left ≡ length register) where
    pub capacity_kept : capacity left ≡ capacity register
    unfolding capacity
    capacity_kept = rw (same_length, day_kept)

    -- and with no more rows used than fit it is framed, if the other is
    pub framed_kept : Framed register → used left ≤ capacity register → Framed left
    framed_kept f few =
        let three : take 3 left ≡ take 3 register = sym (take-take 3 5 left (lit≤ tt)) ∙ ap (take 3) same_head ∙ take-take 3 5 register (lit≤ tt) in
        record {
          head = rw same_length f.head;
          mark = starts_take (ascii "TRN") left ∙ ap (same (ascii "TRN")) three ∙ sym (starts_take (ascii "TRN") register) ∙ f.mark;
          known = rw version_kept f.known;
          fits = rw capacity_kept few;
        }

-- k rows fit exactly if their bytes are there: no division is needed to tell
module _ (register : List ℕ) {k : ℕ} where
  pub fits_bytes : k ≤ 4294967295 → k * width (day_width register) ≤ length register - 9 → k ≤ capacity register
  unfolding capacity
  fits_bytes few h =
      let n : ℕ = day_width register in
      let rows : k ≤ (length register - 9) / width n = (le-div_iff_mul-le {k = width n} {x = k} {y = length register - 9} (omega arith)).1 h in
      omega arith

  pub bytes_fit : k ≤ capacity register → k * width (day_width register) ≤ length register - 9
  unfolding capacity
  bytes_fit h =
      let n : ℕ = day_width register in
      let m : k ≤ (length register - 9) / width n = omega (arith, min-le_left ((length register - 9) / width n) 4294967295) in
      omega (arith, mul-le-mul_right (width n) m, div-mul-le_self (length register - 9) (width n))

-- all rows that are used stand within the bytes
pub rows_within : {register : List ℕ} → Framed register → used register * width (day_width register) ≤ length (drop 9 register)
rows_within {register} f = simp length-drop (bytes_fit register f.fits)
