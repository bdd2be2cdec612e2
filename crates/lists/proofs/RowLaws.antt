-- The rows that fit from a place on: one row and those behind it, or none. The row at a number, and how many there are.
use mathlib.Core.Path.{◌≡◌, ◌∙◌, refl, ap}
use mathlib.Core.List.{List, [], ◌∷◌}
use Prim.Native.Nat.{ℕ, zero, suc, ◌+◌, ◌*◌, ◌-◌, ◌/◌, ◌≤◌, ◌<◌}
use native.Mathlib.Nat.{zero-mul, suc-mul, div-eq-sub-div, div-eq_of_lt}
use native.Mathlib.Numerals.{add-one}
use native.Mathlib.Omega.{arith}
use lib.ListN.{length, get_or, take, drop}
use lib.Seq.{drop-drop}
use Rattle.lists.specs.Rows.{chunks, rows_from, rows_of}

module _ (width at : ℕ) (list : List ℕ) where
  pub next_row : 0 < width → at + width ≤ length list → rows_from width at list ≡ take width (drop at list) ∷ rows_from width (at + width) list
  unfolding rows_from chunks
  next_row wide fits =
      let less : length list - at - width ≡ length list - (at + width) = omega arith in
      let one_more : (length list - at) / width ≡ suc ((length list - (at + width)) / width) = div-eq-sub-div wide (omega arith) ∙ rw (less, add-one) in
      rw (one_more, drop-drop width at list)

  pub no_row : 0 < width → length list < at + width → rows_from width at list ≡ []
  unfolding rows_from chunks
  no_row wide short = let none : (length list - at) / width ≡ 0 = div-eq_of_lt (omega arith) in rw none

-- there are as many rows as whole rows fit
pub chunks_count : (n width : ℕ) (s : List ℕ) → length (chunks n width s) ≡ n
unfolding chunks
chunks_count zero width s = refl
chunks_count (suc n) width s = ap suc (chunks_count n width (drop width s))

chunk_at : (n width i : ℕ) (s : List ℕ) → i < n → get_or (chunks n width s) i [] ≡ take width (drop (i * width) s)
unfolding chunks
chunk_at zero width i s h = absurd (omega arith)
chunk_at (suc n) width zero s h = rw (zero-mul width)
chunk_at (suc n) width (suc i) s h =
    let there : width + i * width ≡ suc i * width = omega (arith, suc-mul i width) in
    chunk_at n width i (drop width s) (omega arith) ∙ rw (drop-drop (i * width) width s, there)

-- row number i, from 0 on, is the bytes at 9 + i x row
pub row_at : (width i : ℕ) (list : List ℕ) → i < length (rows_of width list) → get_or (rows_of width list) i [] ≡ take width (drop (9 + i * width) list)
unfolding rows_from
row_at width i list h =
    let n = (length list - 9) / width in
    chunk_at n width i (drop 9 list) (rw (chunks_count n width (drop 9 list)) at h) ∙ rw (drop-drop (i * width) 9 list)
