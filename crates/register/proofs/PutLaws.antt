-- Writing bytes is putting a row: over every row width, and with any bytes in what is not used.
use mathlib.Core.Path.{◌≡◌, ◌∙◌, refl, sym, ap, subst}
use mathlib.Core.Bool.{true, false, not, ◌&&◌}
use mathlib.Core.List.{List, [], ◌∷◌, ◌++◌, append_assoc}
use Rattle.std.proofs.Common.{Option, Some, None}
use Prim.Native.Nat.{ℕ, zero, suc, ◌+◌, ◌*◌, ◌-◌, ◌≤◌, ◌<◌}
use native.Mathlib.Nat.{suc-mul, zero-mul}
use native.Mathlib.Numerals.{add-one}
use native.Mathlib.Omega.{arith}
use borrow.Author.Tests.{lt-ltb, eqb-false, not-true}
use lib.Dec.{ltb, lit≤}
use lib.ListN.{length, take, drop, length-append, length-drop}
use lib.Seq.{sets, length-sets, take_at, drop_at}
use Rattle.text.specs.Word.{same}
use Rattle.text.specs.Number.{little_endian}
use Rattle.text.proofs.Bools.{by_test, and_left, and_right}
use Rattle.register.specs.Frame.{width, place, version, day_width, used, capacity, framed, full, is_used}
use Rattle.register.specs.Rows.{row_in, rows_in, rows_of, own_from, first_row}
use Rattle.register.specs.Table.{put_row}
use Rattle.register.specs.Written.{little_bytes, restated, appended, put, value_of, set_cancelled}
use Rattle.register.specs.declared.rows.Standing.TheVariants.{Cancelled}
use Rattle.register.proofs.Stores.{take_sets, drop_sets_past, drop_sets_add, sets_front, drop_take}
use Rattle.register.proofs.Words.{little_head, little_read}
use Rattle.register.proofs.FrameLaws.{Framed, framed_is, is_framed, version_kept, day_kept, framed_kept, capacity_kept, capacity_small, row_within, rows_within}
use Rattle.register.proofs.RowLaws.{FirstAt, first_at, first_within}

-- the row that bytes begin with, after a store behind it, of its value, of the whole of it
row_kept : (n : ℕ) (s : List ℕ) (i : ℕ) (vs : List ℕ) → width n ≤ i → row_in n (sets s i vs) ≡ row_in n s
row_kept n s i vs h =
    let e : 73 + (i - 73) ≡ i = omega arith in
    let v : take (1 + n) (drop 73 (sets s i vs)) ≡ take (1 + n) (drop 73 s) =
    sym (drop_take 73 (1 + n) (sets s i vs)) ∙ ap (drop 73) (take_sets (73 + (1 + n)) s i vs (omega arith)) ∙ drop_take 73 (1 + n) s in
    λ j. record { key = take_sets 73 s i vs (omega arith) j; value = v j }

row_value : (n : ℕ) (s value : List ℕ) → length value ≡ 1 + n → width n ≤ length s → row_in n (sets s 73 value) ≡ record { key = take 73 s; value = value }
row_value n s value h l =
    let room : length value ≤ length (drop 73 s) = simp length-drop (omega arith) in
    let v : take (1 + n) (drop 73 (sets s 73 value)) ≡ value =
    ap (take (1 + n)) (drop_sets_add 73 s 0 value ∙ sets_front (drop 73 s) value room) ∙ take_at value (drop (length value) (drop 73 s)) (1 + n) h in
    λ j. record { key = take_sets 73 s 73 value (lit≤ tt) j; value = v j }

row_whole :
    (n : ℕ) (s key value : List ℕ) → length key ≡ 73 → length value ≡ 1 + n → width n ≤ length s
    → row_in n (sets s 0 (key ++ value)) ≡ record { key = key; value = value }
row_whole n s key value k h l =
    let rest : List ℕ = drop (length (key ++ value)) s in
    let room : length (key ++ value) ≤ length s = simp length-append (omega arith) in
    let bytes : sets s 0 (key ++ value) ≡ key ++ (value ++ rest) = sets_front s (key ++ value) room ∙ append_assoc key value rest in
    let v : take (1 + n) (drop 73 (sets s 0 (key ++ value))) ≡ value =
    ap (λ b. take (1 + n) (drop 73 b)) bytes ∙ ap (take (1 + n)) (drop_at key (value ++ rest) 73 k) ∙ take_at value rest (1 + n) h in
    λ j. record { key = (ap (take 73) bytes ∙ take_at key (value ++ rest) 73 k) j; value = v j }

-- a value stored in the pair's first row
place_rows :
    (n k m : ℕ) (s pair value : List ℕ) → length value ≡ 1 + n → m * width n ≤ length s → FirstAt pair (rows_in n m s) k
    → rows_in n m (sets s (k * width n + 73) value) ≡ put_row (rows_in n m s) pair value
unfolding rows_in put_row
place_rows n k zero s pair value h l at = absurd at
place_rows n zero (suc m) s pair value h l at =
    let e : 0 * width n + 73 ≡ 73 = omega (arith, zero-mul (width n)) in
    let w : width n ≤ length s = omega (arith, suc-mul m (width n)) in
    rw (at, e) (λ j. row_value n s value h w j ∷ rows_in n m (drop_sets_past (width n) s 73 value (omega arith) j))
place_rows n (suc k) (suc m) s pair value h l at =
    let e : suc k * width n + 73 ≡ width n + (k * width n + 73) = omega (arith, suc-mul k (width n)) in
    let less : m * width n ≤ length (drop (width n) s) = simp length-drop (omega (arith, suc-mul m (width n))) in
    rw (at.0, e)
    (λ j.
    row_kept n s (width n + (k * width n + 73)) value (omega arith) j
    ∷ (ap (rows_in n m) (drop_sets_add (width n) s (k * width n + 73) value) ∙ place_rows n k m (drop (width n) s) pair value h less at.1) j)

-- a row stored behind the used ones, of a pair that has none
append_rows :
    (n m i : ℕ) (s pair value : List ℕ) → length pair ≡ 73 → length value ≡ 1 + n → suc m * width n ≤ length s
    → own_from i (rows_in n m s) pair ≡ None
    → rows_in n (suc m) (sets s (m * width n) (pair ++ value)) ≡ put_row (rows_in n m s) pair value
unfolding rows_in put_row own_from
append_rows n zero i s pair value k h l none =
    let e : 0 * width n ≡ 0 = zero-mul (width n) in
    let w : width n ≤ length s = omega (arith, suc-mul 0 (width n)) in
    rw e (λ j. row_whole n s pair value k h w j ∷ [])
append_rows n (suc m) i s pair value k h l none =
    let e : suc m * width n ≡ width n + m * width n = omega (arith, suc-mul m (width n)) in
    let less : suc m * width n ≤ length (drop (width n) s) = simp length-drop (omega (arith, suc-mul (suc m) (width n))) in
    by_test
    (same pair (take 73 s))
    (λ t.
    let z : Some i ≡ None = rw t at none in
    let y : ◌≡◌ {A = ℕ} 0 1 = cc in
    absurd (omega arith))
    (λ t.
    rw (t, e)
    (λ j.
    row_kept n s (width n + m * width n) (pair ++ value) (omega arith) j
    ∷ (ap (rows_in n (suc m)) (drop_sets_add (width n) s (m * width n) (pair ++ value))
    ∙ append_rows n m (i + 1) (drop (width n) s) pair value k h less (rw t at none)) j))

-- the used count: not touched by a store behind the head, and read as it was written
used_kept : (register : List ℕ) (i : ℕ) (vs : List ℕ) → 9 ≤ i → used (sets register i vs) ≡ used register
unfolding used
used_kept register i vs h = little_head 5 4 (sets register i vs) register (take_sets 9 register i vs h)

used_written : (register : List ℕ) (m : ℕ) → 9 ≤ length register → m ≤ 4294967295 → used (sets register 5 (little_bytes 4 m)) ≡ m
unfolding used
used_written register m h s =
    let room : 4 ≤ length (drop 5 register) = simp length-drop (omega arith) in
    ap (little_endian 4) (drop_sets_add 5 register 0 (little_bytes 4 m) ∙ sets_front (drop 5 register) (little_bytes 4 m) room)
    ∙ little_read 4 m (drop 4 (drop 5 register)) (omega arith)

pub not_full : {register : List ℕ} → Framed register → full register ≡ false → used register < capacity register
unfolding full
not_full {register} f h =
    let other : used register ≡ capacity register → ⊥ = eqb-false (used register) (capacity register) (rw (is_framed f) at h) in
    omega (arith, f.fits)

module _ (register : List ℕ) where
  abbrev n : ℕ
  n = day_width register

  -- the bytes after a row was appended
  abbrev grown : List ℕ → List ℕ → List ℕ
  grown pair value = sets (sets register (place n (used register)) (pair ++ value)) 5 (little_bytes 4 (used register + 1))

  grown_length : (pair value : List ℕ) → length (grown pair value) ≡ length register
  grown_length pair value =
      length-sets (sets register (place n (used register)) (pair ++ value)) 5 (little_bytes 4 (used register + 1))
      ∙ length-sets register (place n (used register)) (pair ++ value)

  grown_head : (pair value : List ℕ) → take 5 (grown pair value) ≡ take 5 register
  grown_head pair value =
      take_sets 5 (sets register (place n (used register)) (pair ++ value)) 5 (little_bytes 4 (used register + 1)) (lit≤ tt)
      ∙ take_sets 5 register (place n (used register)) (pair ++ value) (omega arith)

  grown_used : Framed register → full register ≡ false → (pair value : List ℕ) → used (grown pair value) ≡ used register + 1
  grown_used f h pair value =
      used_written
      (sets register (place n (used register)) (pair ++ value))
      (used register + 1)
      (rw (length-sets register (place n (used register)) (pair ++ value)) f.head)
      (omega (arith, not_full f h, capacity_small register))

  grown_framed : Framed register → full register ≡ false → (pair value : List ℕ) → Framed (grown pair value)
  grown_framed f h pair value =
      framed_kept register (grown pair value) (grown_head pair value) (grown_length pair value) f
      (rw (grown_used f h pair value) (omega (arith, not_full f h)))

  place_head : (k : ℕ) (value : List ℕ) → take 5 (sets register (place n k + 73) value) ≡ take 5 register
  place_head k value = take_sets 5 register (place n k + 73) value (omega arith)

  place_framed : Framed register → (k : ℕ) (value : List ℕ) → Framed (sets register (place n k + 73) value)
  place_framed f k value =
      framed_kept register (sets register (place n k + 73) value) (place_head k value) (length-sets register (place n k + 73) value) f
      (rw (used_kept register (place n k + 73) value (omega arith)) f.fits)

  pub put_length : (found : Option ℕ) (pair value : List ℕ) → length (put register found pair value) ≡ length register
  unfolding put restated appended
  put_length (Some k) pair value =
      by_test
      (is_used register k)
      (λ t. rw t (length-sets register (place n k + 73) value))
      (λ t. rw t)
  put_length None pair value = by_test (framed register && not (full register)) (λ t. rw t (grown_length pair value)) (λ t. rw t)

  put_head : (found : Option ℕ) (pair value : List ℕ) → take 5 (put register found pair value) ≡ take 5 register
  unfolding put restated appended
  put_head (Some k) pair value = by_test (is_used register k) (λ t. rw t (place_head k value)) (λ t. rw t)
  put_head None pair value = by_test (framed register && not (full register)) (λ t. rw t (grown_head pair value)) (λ t. rw t)

  -- a row more or a row anew changes neither the version nor how many rows fit nor that the register is framed
  pub put_version : (found : Option ℕ) (pair value : List ℕ) → version (put register found pair value) ≡ version register
  put_version found pair value = version_kept register (put register found pair value) (put_head found pair value)

  pub put_day : (found : Option ℕ) (pair value : List ℕ) → day_width (put register found pair value) ≡ n
  put_day found pair value = day_kept register (put register found pair value) (put_head found pair value)

  pub put_capacity : (found : Option ℕ) (pair value : List ℕ) → capacity (put register found pair value) ≡ capacity register
  put_capacity found pair value =
      capacity_kept register (put register found pair value) (put_head found pair value) (put_length found pair value)

  pub put_framed : (found : Option ℕ) (pair value : List ℕ) → framed (put register found pair value) ≡ framed register
  unfolding put restated appended is_used
  put_framed (Some k) pair value =
      by_test
      (is_used register k)
      (λ t.
      let f : framed register ≡ true = and_left (framed register) (ltb k (used register)) t in
      rw t (is_framed (place_framed (framed_is register f) k value) ∙ sym f))
      (λ t. rw t)
  put_framed None pair value =
      by_test
      (framed register && not (full register))
      (λ t.
      let f : framed register ≡ true = and_left (framed register) (not (full register)) t in
      let h : full register ≡ false = not-true (full register) (and_right (framed register) (not (full register)) t) in
      rw t (is_framed (grown_framed (framed_is register f) h pair value) ∙ sym f))
      (λ t. rw t)

  module _ (pair value : List ℕ) (f : Framed register) (k : length pair ≡ 73) (h : length value ≡ 1 + n) where
    put_found :
        (found : Option ℕ) → own_from 0 (rows_of register) pair ≡ found → (found ≡ None → full register ≡ false)
        → rows_in n (used (put register found pair value)) (drop 9 (put register found pair value)) ≡ put_row (rows_of register) pair value
    unfolding put restated appended is_used
    put_found None e room =
        let left : full register ≡ false = room refl in
        let bytes : List ℕ = sets register (place n (used register)) (pair ++ value) in
        let fits : suc (used register) * width n ≤ length (drop 9 register) =
        simp length-drop (omega (arith, suc-mul (used register) (width n), row_within register (used register) f.head (not_full f left))) in
        let count : used (grown pair value) ≡ suc (used register) = grown_used f left pair value ∙ add-one (used register) in
        rw (is_framed f, left)
        ((λ j. rows_in n (count j) (drop 9 (grown pair value)))
        ∙ ap
        (rows_in n (suc (used register)))
        (drop_sets_past 9 bytes 5 (little_bytes 4 (used register + 1)) (lit≤ tt) ∙ drop_sets_add 9 register (used register * width n) (pair ++ value))
        ∙ append_rows n (used register) 0 (drop 9 register) pair value k h fits e)
    put_found (Some j) e room =
        let (i, number, at) = first_at 0 j (rows_of register) pair e in
        let z : i ≡ j = omega arith in
        let at_j : FirstAt pair (rows_of register) j = subst (λ (m : ℕ). FirstAt pair (rows_of register) m) z at in
        let few : j < used register = first_within n j (used register) (drop 9 register) pair at_j in
        let p : place n j + 73 ≡ 9 + (j * width n + 73) = omega arith in
        rw (is_framed f, lt-ltb j (used register) few)
        ((λ i. rows_in n (used_kept register (place n j + 73) value (omega arith) i) (drop 9 (sets register (place n j + 73) value)))
        ∙ ap
        (rows_in n (used register))
        (ap (λ i. drop 9 (sets register i value)) p ∙ drop_sets_add 9 register (j * width n + 73) value)
        ∙ place_rows n j (used register) (drop 9 register) pair value h (rows_within f) at_j)

  -- putting a pair where it was found: its row keeps the value, every other row stays; where it has none there is room
  pub put_rows :
      (pair value : List ℕ) → framed register ≡ true → length pair ≡ 73 → length value ≡ 1 + n
      → (first_row register pair ≡ None → full register ≡ false)
      → rows_of (put register (first_row register pair) pair value) ≡ put_row (rows_of register) pair value
  unfolding first_row
  put_rows pair value t k h room =
      rw (put_day (first_row register pair) pair value, t)
      (put_found pair value (framed_is register t) k h (own_from 0 (rows_of register) pair) refl (rw t at room))

-- cancelling a pair that was found puts its row
pub cancelled_put :
    (register pair : List ℕ) (found : Option ℕ) (day : ℕ) → (found ≡ None → ⊥)
    → set_cancelled register found day ≡ put register found pair (value_of register Cancelled day)
unfolding set_cancelled put
cancelled_put register pair None day h = absurd (h refl)
cancelled_put register pair (Some k) day h = refl

pub cancelled_version : (register : List ℕ) (found : Option ℕ) (day : ℕ) → version (set_cancelled register found day) ≡ version register
unfolding set_cancelled put
cancelled_version register (Some k) day = put_version register (Some k) [] (value_of register Cancelled day)
cancelled_version register None day = refl
