-- A register as rows: where the first row of a pair stands, and what a search for it has seen.
use mathlib.Core.Logic.{◌⊎◌, inl, inr}
use mathlib.Core.Path.{◌≡◌, ◌∙◌, refl, sym, ap, subst}
use mathlib.Core.Bool.{Bool, true, false}
use mathlib.Core.List.{List, [], ◌∷◌}
use Rattle.std.proofs.Common.{Option, Some, None}
use Prim.Native.Nat.{ℕ, zero, suc, ◌+◌, ◌*◌, ◌-◌, ◌/◌, ◌≤◌, ◌<◌}
use native.Mathlib.Nat.{suc-mul, zero-mul, add-zero, mul-le-mul_right, mul-div_cancel, lt_of_mul-lt-mul_right, le_of_mul-le-mul_right}
use native.Mathlib.Numerals.{add-one}
use native.Mathlib.Omega.{arith}
use borrow.Author.Tests.{lt-ltb, ltb-true}
use lib.ListN.{length, get_or, take, drop, length-drop}
use lib.Seq.{drop-drop, get_or-drop, length-take-le}
use Rattle.text.specs.Word.{starts_with, same}
use Rattle.text.specs.Number.{little_endian}
use Rattle.text.specs.Stride.{Rowed, has_word, next_row}
use lib.Dec.{ltb}
use Rattle.text.proofs.Bools.{by_test, and_left, and_right}
use Rattle.text.proofs.WordLaws.{begins_within}
use Rattle.text.proofs.LoadLaws.{other_row, next_keeps}
use Rattle.register.specs.Frame.{width, place, day_width, used, framed, is_used, row_width}
use Rattle.register.specs.Rows.{Row, rows_in, rows_of, own_from, look, state_of, stands_as, first_row, standing, standing_at}
use Rattle.register.specs.declared.rows.Standing.TheVariants.{Absent}
use Rattle.register.proofs.Stores.{drop_take}
use Rattle.register.proofs.Words.{starts_take}
use Rattle.register.proofs.FrameLaws.{Framed, framed_is, is_framed, row_within, rows_within}
use Rattle.register.proofs.WidthLaws.{width_known, told_width, RowAt, row_at}

pub rows_counted : (n k : ℕ) (s : List ℕ) → length (rows_in n k s) ≡ k
unfolding rows_in
rows_counted n zero s = refl
rows_counted n (suc k) s = ap suc (rows_counted n k (drop (width n) s))

-- row k is the pair's, and none before it
abbrev pub FirstAt : List ℕ → List Row → ℕ → Type 0
FirstAt pair [] k = ⊥
FirstAt pair (row ∷ rows) zero = same pair row.key ≡ true
FirstAt pair (row ∷ rows) (suc k) = (same pair row.key ≡ false) × FirstAt pair rows k

pub first_at : (i j : ℕ) (rows : List Row) (pair : List ℕ) → own_from i rows pair ≡ Some j → (k : ℕ) × (j ≡ i + k) × FirstAt pair rows k
unfolding own_from
first_at i j [] pair h = let z : ◌≡◌ {A = ℕ} 0 1 = cc in absurd (omega arith)
first_at i j (row ∷ rows) pair h =
    by_test
    (same pair row.key)
    (λ t.
    let e : Some i ≡ Some j = rw t at h in
    let z : i ≡ j = cc in
    (0, omega arith, t))
    (λ t.
    let (k, e, at) = first_at (i + 1) j rows pair (rw t at h) in
    (suc k, omega arith, (t, at)))

pub at_first : (i k : ℕ) (rows : List Row) (pair : List ℕ) → FirstAt pair rows k → own_from i rows pair ≡ Some (i + k)
unfolding own_from
at_first i k [] pair h = absurd h
at_first i zero (row ∷ rows) pair h = rw (h, add-zero i)
at_first i (suc k) (row ∷ rows) pair h =
    let e : i + 1 + k ≡ i + suc k = omega arith in
    rw h.0 (at_first (i + 1) k rows pair h.1 ∙ ap Some e)

-- the number found is k exactly if row k is the pair's, and none before it
module _ (register pair : List ℕ) (t : framed register ≡ true) (k : ℕ) where
  pub number_first : first_row register pair ≡ Some k → FirstAt pair (rows_of register) k
  unfolding first_row
  number_first h =
      let (i, same, there) = first_at 0 k (rows_of register) pair (rw t at h) in
      let l : k ≡ i = omega (arith, same) in
      rw l there

  pub first_number : FirstAt pair (rows_of register) k → first_row register pair ≡ Some k
  unfolding first_row
  first_number h = let e : 0 + k ≡ k = omega arith in rw t (at_first 0 k (rows_of register) pair h ∙ ap Some e)

-- the first row of a pair is one of the rows, and what is kept of the pair stands there
pub first_within : (n k m : ℕ) (s pair : List ℕ) → FirstAt pair (rows_in n m s) k → k < m
unfolding rows_in
first_within n k zero s pair h = absurd h
first_within n zero (suc m) s pair h = omega arith
first_within n (suc k) (suc m) s pair h = omega (arith, first_within n k m (drop (width n) s) pair h.1)

pub look_at : (n k m : ℕ) (s pair : List ℕ) → FirstAt pair (rows_in n m s) k → look (rows_in n m s) pair ≡ take (1 + n) (drop (k * width n + 73) s)
unfolding rows_in look
look_at n k zero s pair h = absurd h
look_at n zero (suc m) s pair h = let e : 0 * width n + 73 ≡ 73 = omega (arith, zero-mul (width n)) in rw (h, e)
look_at n (suc k) (suc m) s pair h =
    let e : width n + (k * width n + 73) ≡ suc k * width n + 73 = omega (arith, suc-mul k (width n)) in
    rw h.0 (look_at n k m (drop (width n) s) pair h.1 ∙ ap (take (1 + n)) (drop-drop (k * width n + 73) (width n) s ∙ ap (λ j. drop j s) e))

pub look_none : (i : ℕ) (rows : List Row) (pair : List ℕ) → own_from i rows pair ≡ None → look rows pair ≡ []
unfolding own_from look
look_none i [] pair h = refl
look_none i (row ∷ rows) pair h =
    by_test
    (same pair row.key)
    (λ t.
    let e : Some i ≡ None = rw t at h in
    let z : ◌≡◌ {A = ℕ} 0 1 = cc in
    absurd (omega arith))
    (λ t. rw t (look_none (i + 1) rows pair (rw t at h)))

stands_first : (n : ℕ) (s : List ℕ) → 0 < length s → stands_as (take (1 + n) s) ≡ state_of (get_or s 0 0)
stands_first n [] h = absurd (omega arith)
stands_first n (x ∷ s) h = let e : 1 + n ≡ suc n = omega arith in rw e

module _ (register pair : List ℕ) (f : Framed register) where
  abbrev n : ℕ
  n = day_width register

  stands_at :
      (k : ℕ) → FirstAt pair (rows_of register) k
      → state_of (get_or register (place n k + 73) 0) ≡ stands_as (look (rows_of register) pair)
  stands_at k at =
      let few : k < used register = first_within n k (used register) (drop 9 register) pair at in
      let more : place n k + width n ≤ length register = row_within register k f.head (omega arith) in
      let e : 9 + (k * width n + 73) ≡ place n k + 73 = omega arith in
      let some : 0 < length (drop (place n k + 73) register) = simp length-drop (omega arith) in
      sym
      (ap
      stands_as
      (look_at n k (used register) (drop 9 register) pair at
      ∙ ap (take (1 + n)) (drop-drop (k * width n + 73) 9 register ∙ ap (λ j. drop j register) e))
      ∙ stands_first n (drop (place n k + 73) register) some
      ∙ ap state_of (get_or-drop (place n k + 73) register 0 0 ∙ ap (λ j. get_or register j 0) (add-zero (place n k + 73))))

  stands_found :
      (found : Option ℕ) → own_from 0 (rows_of register) pair ≡ found
      → standing_at register found ≡ stands_as (look (rows_of register) pair)
  unfolding standing_at is_used
  stands_found None e = sym (ap stands_as (look_none 0 (rows_of register) pair e))
  stands_found (Some j) e =
      let (k, number, at) = first_at 0 j (rows_of register) pair e in
      let z : k ≡ j = omega arith in
      let at_j : FirstAt pair (rows_of register) j = subst (λ (m : ℕ). FirstAt pair (rows_of register) m) z at in
      let few : j < used register = first_within n j (used register) (drop 9 register) pair at_j in
      rw (is_framed f, lt-ltb j (used register) few) (stands_at j at_j)

-- how a pair stands is what is read where it was found
pub standing_found :
    (register pair : List ℕ)
    → standing_at register (first_row register pair) ≡ standing register pair
unfolding first_row standing standing_at
standing_found register pair =
    by_test
    (framed register)
    (λ t. rw t (stands_found register pair (framed_is register t) (own_from 0 (rows_of register) pair) refl))
    (λ t. rw t)

-- the used rows, with the head before them
abbrev pub in_use : List ℕ → List ℕ
in_use register = take (place (day_width register) (used register)) register

-- the rows before place `at` are other pairs'; w is the width of a row
pub record SearchSoFar (w : ℕ) (register pair rows : List ℕ) (at : ℕ) : Type 0 where
  pub framed_one : framed register ≡ true
  pub walks : w ≡ width (day_width register)
  pub long : length pair ≡ 73
  pub rows_are : rows ≡ in_use register
  pub row : ℕ
  pub within : row ≤ used register
  pub place_is : at ≡ place (day_width register) row
  pub left : own_from 0 (rows_of register) pair ≡ own_from row (rows_in (day_width register) (used register - row) (drop at register)) pair

pub search_start :
    {w : ℕ} {register pair rows : List ℕ} → w ≡ row_width register → framed register ≡ true → length pair ≡ 73 → rows ≡ take (9 + used register * w) register
    → SearchSoFar w register pair rows 9
search_start {w} {register} told f l e =
    let z : used register - 0 ≡ used register = omega arith in
    record {
      framed_one = f;
      walks = told_width register told f;
      long = l;
      rows_are = e ∙ ap (λ k. take (9 + used register * k) register) (told_width register told f);
      row = 0;
      within = omega arith;
      place_is = omega (arith, zero-mul (width (day_width register)));
      left = rw z;
    }

module _ {w : ℕ} {register pair rows : List ℕ} {at : ℕ} (so_far : SearchSoFar w register pair rows at) where
  abbrev size : ℕ
  size = width (day_width register)

  pub search_known : (w ≡ 74) ⊎ (w ≡ 78)
  search_known = rw so_far.walks (width_known register)

  -- a word within the pair's bytes stands within a row
  pub search_rowed : {place : ℕ} → place + 8 ≤ 73 → Rowed w place 8
  search_rowed {place} h = go search_known
    where
      go : (w ≡ 74) ⊎ (w ≡ 78) → Rowed w place 8
      go (inl e) = record { sized = inl refl; nonzero = omega arith; short = omega arith; room = omega arith }
      go (inr e) = record { sized = inl refl; nonzero = omega arith; short = omega arith; room = omega arith }

  rows_end : length rows ≡ place (day_width register) (used register)
  rows_end =
      let whole = framed_is register so_far.framed_one in
      let room : place (day_width register) (used register) ≤ length register = omega (arith, whole.head, rw length-drop at (rows_within whole)) in
      rw so_far.rows_are (length-take-le (place (day_width register) (used register)) register room)

  pub search_behind : 9 ≤ at
  search_behind = omega (arith, so_far.place_is)

  module _ (h : at < length rows) where
    -- a place within the used rows is that of one of them
    one_used : so_far.row < used register
    one_used =
        let before : so_far.row * size < used register * size = omega (arith, so_far.place_is, rows_end) in
        lt_of_mul-lt-mul_right size before

    pub search_small : at + w ≤ length rows
    search_small = omega (arith, so_far.walks, so_far.place_is, rows_end, suc-mul so_far.row size, mul-le-mul_right size one_used)

    compared : (b : Bool) → starts_with pair (drop at rows) ≡ b → same pair (take 73 (drop at register)) ≡ b
    compared b e =
        let room : at + (length rows - at) ≡ place (day_width register) (used register) = omega (arith, rows_end) in
        let cut : drop at rows ≡ take (length rows - at) (drop at register) =
        ap (drop at) (so_far.rows_are ∙ ap (λ k. take k register) (sym room)) ∙ drop_take at (length rows - at) register in
        sym (starts_take pair (drop at register) ∙ ap (λ k. same pair (take k (drop at register))) so_far.long)
        ∙ sym (ap (starts_with pair) cut ∙ begins_within (length rows - at) pair (drop at register) (omega (arith, so_far.walks, search_small, so_far.long)))
        ∙ e

    one_row : used register - so_far.row ≡ suc (used register - (so_far.row + 1))
    one_row = omega (arith, one_used)

    pub search_hit : starts_with pair (drop at rows) ≡ true → Some ((at - 9) / w) ≡ first_row register pair
    unfolding first_row own_from rows_in
    search_hit e =
        let back : at - 9 ≡ so_far.row * size = omega (arith, so_far.place_is) in
        let number : (at - 9) / w ≡ so_far.row = rw (so_far.walks, back) (mul-div_cancel so_far.row (omega arith)) in
        rw so_far.framed_one (ap Some number ∙ sym (so_far.left ∙ rw (one_row, compared true e)))

    pub search_on : starts_with pair (drop at rows) ≡ false → SearchSoFar w register pair rows (at + w)
    unfolding own_from rows_in
    search_on e =
        let p : (so_far.row + 1) * size ≡ so_far.row * size + size = ap (λ j. j * size) (add-one so_far.row) ∙ suc-mul so_far.row size in
        record {
          framed_one = so_far.framed_one;
          walks = so_far.walks;
          long = so_far.long;
          rows_are = so_far.rows_are;
          row = so_far.row + 1;
          within = omega (arith, one_used);
          place_is = omega (arith, so_far.walks, so_far.place_is);
          left = so_far.left ∙ rw (one_row, compared false e, drop-drop size at register, so_far.walks);
        }

  pub search_end : length rows ≤ at → None ≡ first_row register pair
  unfolding first_row own_from rows_in
  search_end h =
      let behind : used register * size ≤ so_far.row * size = omega (arith, so_far.place_is, rows_end) in
      let all : used register ≤ so_far.row = le_of_mul-le-mul_right behind (omega arith) in
      let k : used register - so_far.row ≡ 0 = omega arith in
      rw so_far.framed_one (sym (so_far.left ∙ rw k))

-- rows with another word than the pair's are passed
pub search_next :
    {w : ℕ} {register pair rows : List ℕ} {from : ℕ} → SearchSoFar w register pair rows from → {place : ℕ} → Rowed w place 8 → place + 8 ≤ 73
    → {asked at : ℕ} → asked ≡ little_endian 8 (drop place pair) → at ≡ next_row w place 8 asked rows from → SearchSoFar w register pair rows at
search_next {w} {register} {pair} {rows} {from} so_far {place} rowed short {asked} asks next =
    rw next (next_keeps rowed asked rows (λ at. SearchSoFar w register pair rows at) past from so_far)
  where
    past : (at : ℕ) → at + w ≤ length rows → has_word place 8 asked rows at ≡ false → SearchSoFar w register pair rows at
        → SearchSoFar w register pair rows (at + w)
    past at fits e here =
        search_on here (omega (arith, so_far.walks)) (other_row place 8 pair rows at (omega (arith, so_far.long)) asks e)

-- a register that is not framed holds no pair, and neither does a row that is not used
pub first_unframed : (register pair : List ℕ) → framed register ≡ false → None ≡ first_row register pair
unfolding first_row
first_unframed register pair e = rw e

pub used_row : (w : ℕ) (register : List ℕ) (k : ℕ) → w ≡ row_width register → is_used register k ≡ true → RowAt w register k
unfolding is_used
used_row w register k told e =
    let t : framed register ≡ true = and_left (framed register) (ltb k (used register)) e in
    let few : k < used register = ltb-true k (used register) (and_right (framed register) (ltb k (used register)) e) in
    row_at w register k told t (omega (arith, (framed_is register t).fits))

-- by the test that the code makes
pub tested_row : {w : ℕ} {register : List ℕ} {k : ℕ} {used : Bool} → w ≡ row_width register → used ≡ is_used register k → used ≡ true → RowAt w register k
tested_row {w} {register} {k} told tests h = used_row w register k told (sym tests ∙ h)

module _ (register : List ℕ) (k : ℕ) {used : Bool} (tests : used ≡ is_used register k) where
  pub stands_unused : used ≡ false → Absent ≡ standing_at register (Some k)
  unfolding standing_at
  stands_unused e = rw (sym tests ∙ e)

  -- by the byte that stands where the width says
  pub stands_used : {w state : ℕ} → w ≡ row_width register → used ≡ true → state ≡ get_or register (9 + k * w + 73) 0 → state_of state ≡ standing_at register (Some k)
  unfolding standing_at
  stands_used told e reads = rw (sym tests ∙ e) (ap state_of (reads ∙ ap (λ p. get_or register (p + 73) 0) (tested_row told tests e).place_is))
