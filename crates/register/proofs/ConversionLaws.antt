-- What a conversion from version 1 to version 2 leaves, and that the register left shows each pair as the source does.
use mathlib.Core.Path.{◌≡◌, ◌∙◌, refl, sym, ap}
use mathlib.Core.Bool.{true, cond, ◌&&◌, ◌||◌}
use mathlib.Core.List.{List, [], ◌∷◌, ◌++◌, append_assoc}
use Rattle.std.proofs.Common.{Ok, Err}
use Prim.Native.Nat.{ℕ, zero, suc, ◌+◌, ◌*◌, ◌-◌, ◌≤◌, ◌<◌}
use native.Mathlib.Numerals.{add-one}
use native.Mathlib.Omega.{arith}
use borrow.Author.Tests.{eqb-true, ne_eqb, ltb-false, lt-ltb, le-ltb}
use lib.Dec.{eqb, ltb, lit≤}
use lib.ListN.{length, take, drop, length-append, length-drop}
use lib.Seq.{sets, length-sets, length-take-le, take-take, drop-drop, take-append-le, drop-append-le, drop-append-add}
use Rattle.text.specs.Ascii.{ascii}
use Rattle.text.specs.Word.{starts_with, same}
use Rattle.text.specs.Number.{little_endian}
use Rattle.text.proofs.Bools.{by_test, and_left, and_right}
use Rattle.register.specs.Frame.{width, place, version, day_width, used, framed, row_width}
use Rattle.register.specs.Rows.{Row, row_in, rows_in, rows_of, own_from, look, stands_as, first_row, standing, day_of}
use Rattle.register.specs.Table.{holds, rows_with}
use Rattle.register.specs.Written.{little_bytes}
use Rattle.register.specs.Conversion.{undated, in_version2, conversion_answer, converted, Converted}
use Rattle.register.specs.Refused.{rows_to_convert}
use Rattle.register.specs.declared.conversion.Refusal.{Refusal}
use Rattle.register.specs.declared.conversion.Refusal.TheVariants.{Source, Target}
use Rattle.register.proofs.Stores.{sets_append, sets_front, drop_sets_past, drop_take}
use Rattle.register.proofs.Words.{little_read}
use Rattle.register.proofs.FrameLaws.{framed_is, is_framed, capacity_small, fits_bytes, rows_within}
use Rattle.register.proofs.WidthLaws.{told_framed, told_width}

-- day 0
abbrev pub no_day : List ℕ
no_day = 0 ∷ 0 ∷ 0 ∷ 0 ∷ []

-- a row more stands behind the others
undated_more : (k : ℕ) (s : List ℕ) → undated (suc k) s ≡ undated k s ++ (take 74 (drop (k * 74) s) ++ no_day)
unfolding undated
undated_more zero s = refl
undated_more (suc k) s =
    let next : 74 + k * 74 ≡ suc k * 74 = omega arith in
    ap
    (λ rows. take 74 s ++ (no_day ++ rows))
    (undated_more k (drop 74 s) ∙ ap (λ row. undated k (drop 74 s) ++ (take 74 row ++ no_day)) (drop-drop (k * 74) 74 s ∙ ap (λ i. drop i s) next))
    ∙ sym (append_assoc (take 74 s) (no_day ++ undated k (drop 74 s)) (take 74 (drop (suc k * 74) s) ++ no_day))

undated_length : (k : ℕ) (s : List ℕ) → k * 74 ≤ length s → length (undated k s) ≡ k * 78
unfolding undated
undated_length zero s h = refl
undated_length (suc k) s h =
    let less : k * 74 ≤ length (drop 74 s) = simp length-drop (omega arith) in
    let rest : length (undated k (drop 74 s)) ≡ k * 78 = undated_length k (drop 74 s) less in
    length-append (take 74 s) (no_day ++ undated k (drop 74 s)) ∙ rw (length-take-le 74 s (omega arith)) (omega arith)

-- a row more is written: the next one, as the code cuts it out
module _ (source : List ℕ) (row : ℕ) where
  abbrev cut : List ℕ
  cut = take (9 + row * 74 + 74 - (9 + row * 74)) (drop (9 + row * 74) source)

  cut_is : cut ≡ take 74 (drop (row * 74) (drop 9 source))
  cut_is =
      let size : 9 + row * 74 + 74 - (9 + row * 74) ≡ 74 = omega arith in
      ap (λ k. take k (drop (9 + row * 74) source)) size ∙ ap (take 74) (sym (drop-drop (row * 74) 9 source))

  module _ (within : place 0 (row + 1) ≤ length source) where
    pub cut_length : length cut ≡ 74
    cut_length =
        let room : 74 ≤ length (drop (row * 74) (drop 9 source)) = simp length-drop (omega arith) in
        ap length cut_is ∙ length-take-le 74 (drop (row * 74) (drop 9 source)) room

    pub written_on :
        (target₀ : List ℕ) {target one left : List ℕ} → target ≡ sets target₀ 9 (undated row (drop 9 source))
        → one ≡ sets target (9 + row * 78) cut → left ≡ sets one (9 + row * 78 + 74) no_day
        → left ≡ sets target₀ 9 (undated (row + 1) (drop 9 source))
    written_on target₀ {target} {one} {left} so_far first second =
        let s : List ℕ = drop 9 source in
        let room : row * 74 ≤ length s = simp length-drop (omega arith) in
        second
        ∙ ap (λ l. sets l (9 + row * 78 + 74) no_day) first
        ∙ ap (λ m. sets (sets target (9 + row * 78) cut) (9 + row * 78 + m) no_day) (sym cut_length)
        ∙ sym (sets_append target (9 + row * 78) cut no_day)
        ∙ ap (λ l. sets l (9 + row * 78) (cut ++ no_day)) so_far
        ∙ ap (λ m. sets (sets target₀ 9 (undated row s)) (9 + m) (cut ++ no_day)) (sym (undated_length row s room))
        ∙ sym (sets_append target₀ 9 (undated row s) (cut ++ no_day))
        ∙ ap (λ l. sets target₀ 9 (undated row s ++ (l ++ no_day))) cut_is
        ∙ ap (sets target₀ 9) (sym (undated_more row s) ∙ ap (λ k. undated k s) (sym (add-one row)))

-- a row has 74 bytes exactly in a framed register of version 1
module _ {w : ℕ} (source target : List ℕ) (told : w ≡ row_width source) where
  pub refused_source : (w ≡ 74 → ⊥) → Err Source ≡ rows_to_convert source target
  unfolding rows_to_convert day_width
  refused_source other =
      by_test
      (framed source && eqb (version source) 1)
      (λ t.
      let one : version source ≡ 1 = eqb-true (version source) 1 (and_right (framed source) (eqb (version source) 1) t) in
      absurd (other (told_width source told (and_left (framed source) (eqb (version source) 1) t) ∙ rw one)))
      (λ t. rw t)

  module _ (wide : w ≡ 74) where
    is_first : (framed source && eqb (version source) 1) ≡ true
    unfolding day_width
    is_first =
        let whole : framed source ≡ true = told_framed source told (λ z. absurd (omega arith)) in
        let narrow : 74 ≡ width (day_width source) = sym wide ∙ told_width source told whole in
        rw whole
        (by_test
        (eqb (version source) 1)
        (λ t. t)
        (λ t.
        let two : eqb (version source) 2 ≡ true = rw t at (framed_is source whole).known in
        let z : 74 ≡ 78 = rw two at narrow in
        absurd (omega arith)))

    module _ {count : ℕ} (counts : count ≡ used source) where
      pub refused_target : length target < 9 + count * 78 → Err Target ≡ rows_to_convert source target
      unfolding rows_to_convert
      refused_target short = rw (is_first, lt-ltb (length target) (place 4 (used source)) (omega arith))

      pub not_refused : 9 + count * 78 ≤ length target → Ok count ≡ rows_to_convert source target
      unfolding rows_to_convert
      not_refused room = rw (is_first, le-ltb (length target) (place 4 (used source)) (omega arith)) (ap Ok counts)

-- the number of a refusal
abbrev pub refusal_number : Refusal → ℕ
refusal_number Source = 6
refusal_number Target = 12

some_number : (refusal : Refusal) → refusal_number refusal ≡ 0 → ⊥
some_number Source e = omega arith
some_number Target e = omega arith

-- what is answered in words is answered in numbers
module _ (source target : List ℕ) where
  pub refusal_is : {no : Refusal} → rows_to_convert source target ≡ Err no → conversion_answer source target ≡ refusal_number no
  unfolding conversion_answer rows_to_convert
  refusal_is {no} h =
      by_test
      (framed source && eqb (version source) 1)
      (λ t.
      by_test
      (ltb (length target) (place 4 (used source)))
      (λ l.
      let e : Err Target ≡ Err no = rw (t, l) at h in
      let z : Target ≡ no = cc in
      rw (t, l) (ap refusal_number z))
      (λ l.
      let e : Ok (used source) ≡ Err no = rw (t, l) at h in
      cc))
      (λ t.
      let e : Err Source ≡ Err no = rw t at h in
      let z : Source ≡ no = cc in
      rw t (ap refusal_number z))

  pub rows_are : {count : ℕ} → rows_to_convert source target ≡ Ok count → (conversion_answer source target ≡ 0) × (count ≡ used source)
  unfolding conversion_answer rows_to_convert
  rows_are {count} h =
      by_test
      (framed source && eqb (version source) 1)
      (λ t.
      by_test
      (ltb (length target) (place 4 (used source)))
      (λ l.
      let e : Err Target ≡ Ok count = rw (t, l) at h in
      cc)
      (λ l.
      let e : Ok (used source) ≡ Ok count = rw (t, l) at h in
      (rw (t, l), cc)))
      (λ t.
      let e : Err Source ≡ Ok count = rw t at h in
      cc)

-- a register of version 1 has no day in its rows, which stand within its bytes
pub first_undated : (source : List ℕ) → version source ≡ 1 → day_width source ≡ 0
unfolding day_width
first_undated source one = rw one

first_rows : (source : List ℕ) → framed source ≡ true → version source ≡ 1 → used source * 74 ≤ length (drop 9 source)
first_rows source whole one = rw (first_undated source one) at (rows_within (framed_is source whole))

-- what the answer tells of the two registers and of what is left
module _ (source target : List ℕ) where
  converted_is : conversion_answer source target ≡ 0 → converted source target ≡ sets target 0 (in_version2 source)
  unfolding converted
  converted_is h = rw h

  pub conversion_refused : (conversion_answer source target ≡ 0 → ⊥) → converted source target ≡ target
  unfolding converted
  conversion_refused h = rw (ne_eqb (conversion_answer source target) 0 h)

  pub conversion_is :
      conversion_answer source target ≡ 0
      → (framed source ≡ true) × (version source ≡ 1) × (place 4 (used source) ≤ length target) × (converted source target ≡ sets target 0 (in_version2 source))
  unfolding conversion_answer
  conversion_is h =
      by_test
      (framed source && eqb (version source) 1)
      (λ t.
      by_test
      (ltb (length target) (place 4 (used source)))
      (λ l.
      let z : 12 ≡ 0 = rw (t, l) at h in
      absurd (omega arith))
      (λ l. (
        and_left (framed source) (eqb (version source) 1) t,
        eqb-true (version source) 1 (and_right (framed source) (eqb (version source) 1) t),
        ltb-false (length target) (place 4 (used source)) l,
        converted_is h,
      )))
      (λ t.
      let z : 6 ≡ 0 = rw t at h in
      absurd (omega arith))

  module _ {count : ℕ} (accepted : rows_to_convert source target ≡ Ok count) where
    -- the rows stand within the source, and have room in the target
    pub conversion_room : (place 0 count ≤ length source) × (place 4 count ≤ length target)
    conversion_room =
        let (none, counts) = rows_are source target accepted in
        let (whole, one, room, done) = conversion_is none in
        (omega (arith, counts, (framed_is source whole).head, rw length-drop at (first_rows source whole one)), omega (arith, counts, room))

    -- the head, then the rows
    pub conversion_done :
        {head left : List ℕ} → head ≡ sets target 0 (ascii "TRN" ++ (little_bytes 2 2 ++ little_bytes 4 count))
        → left ≡ sets head 9 (undated count (drop 9 source)) → Converted source target 0 left
    unfolding in_version2
    conversion_done {head} {left} first second =
        let (none, counts) = rows_are source target accepted in
        let front : List ℕ = ascii "TRN" ++ (little_bytes 2 2 ++ little_bytes 4 count) in
        let rows : List ℕ = undated count (drop 9 source) in
        record {
          says = sym none;
          leaves =
              second
              ∙ ap (λ l. sets l 9 rows) first
              ∙ sym (sets_append target 0 front rows)
              ∙ ap (λ k. sets target 0 (ascii "TRN" ++ (little_bytes 2 2 ++ (little_bytes 4 k ++ undated k (drop 9 source))))) counts
              ∙ sym (converted_is none);
        }

  pub conversion_none : {refusal : Refusal} → rows_to_convert source target ≡ Err refusal → Converted source target (refusal_number refusal) target
  conversion_none {refusal} refused =
      let says : conversion_answer source target ≡ refusal_number refusal = refusal_is source target refused in
      record { says = sym says; leaves = sym (conversion_refused (λ none. some_number refusal (sym says ∙ none))) }

-- a pair's value in version 2: the same state, and day 0
abbrev pub undated_value : List ℕ → List ℕ
undated_value [] = []
undated_value (state ∷ more) = state ∷ no_day

abbrev pub undated_row : Row → Row
undated_row row = record { key = row.key; value = undated_value row.value }

unfoldable pub undated_rows : List Row → List Row
undated_rows [] = []
undated_rows (row ∷ rows) = undated_row row ∷ undated_rows rows

value_undated : (s rest : List ℕ) → 0 < length s → take 5 (take 1 s ++ (no_day ++ rest)) ≡ undated_value (take 1 s)
value_undated [] rest h = absurd (omega arith)
value_undated (x ∷ s) rest h = refl

row_undated : (s rest : List ℕ) → 74 ≤ length s → row_in 4 (take 74 s ++ (no_day ++ rest)) ≡ undated_row (row_in 0 s)
row_undated s rest h =
    let size : length (take 74 s) ≡ 74 = length-take-le 74 s h in
    let some : 0 < length (drop 73 s) = simp length-drop (omega arith) in
    let k : take 73 (take 74 s ++ (no_day ++ rest)) ≡ take 73 s =
    take-append-le 73 (take 74 s) (no_day ++ rest) (omega arith) ∙ take-take 73 74 s (lit≤ tt) in
    let v : take 5 (drop 73 (take 74 s ++ (no_day ++ rest))) ≡ undated_value (take 1 (drop 73 s)) =
    ap (take 5) (drop-append-le 73 (take 74 s) (no_day ++ rest) (omega arith) ∙ ap (λ state. state ++ (no_day ++ rest)) (drop_take 73 1 s))
    ∙ value_undated (drop 73 s) rest some in
    λ i. record { key = k i; value = v i }

-- the rows in their places
rows_undated : (k : ℕ) (s rest : List ℕ) → k * 74 ≤ length s → rows_in 4 k (undated k s ++ rest) ≡ undated_rows (rows_in 0 k s)
unfolding undated rows_in undated_rows
rows_undated zero s rest h = refl
rows_undated (suc k) s rest h =
    let later : List ℕ = undated k (drop 74 s) ++ rest in
    let size : length (take 74 s) ≡ 74 = length-take-le 74 s (omega arith) in
    let less : k * 74 ≤ length (drop 74 s) = simp length-drop (omega arith) in
    let behind : drop 78 (take 74 s ++ (no_day ++ later)) ≡ later =
    ap (λ m. drop (m + 4) (take 74 s ++ (no_day ++ later))) (sym size) ∙ drop-append-add (take 74 s) (no_day ++ later) 4 in
    ap (rows_in 4 (suc k)) (append_assoc (take 74 s) (no_day ++ undated k (drop 74 s)) rest)
    ∙ (λ i. row_undated s later (omega arith) i ∷ (ap (rows_in 4 k) behind ∙ rows_undated k (drop 74 s) rest less) i)

-- each pair is found where it was, and its value is the one with day 0
pub own_undated : (i : ℕ) (rows : List Row) (pair : List ℕ) → own_from i (undated_rows rows) pair ≡ own_from i rows pair
unfolding own_from undated_rows
own_undated i [] pair = refl
own_undated i (row ∷ rows) pair = by_test (same pair row.key) (λ t. rw t) (λ t. rw t (own_undated (i + 1) rows pair))

pub look_undated : (rows : List Row) (pair : List ℕ) → look (undated_rows rows) pair ≡ undated_value (look rows pair)
unfolding look undated_rows
look_undated [] pair = refl
look_undated (row ∷ rows) pair = by_test (same pair row.key) (λ t. rw t) (λ t. rw t (look_undated rows pair))

pub stands_undated : (value : List ℕ) → stands_as (undated_value value) ≡ stands_as value
stands_undated [] = refl
stands_undated (state ∷ more) = refl

pub day_undated : (value : List ℕ) → little_endian 4 (drop 1 (undated_value value)) ≡ 0
day_undated [] = refl
day_undated (state ∷ more) = refl

-- and there are as many rows, of each pair and in all
pub holds_undated : (rows : List Row) (pair : List ℕ) → holds (undated_rows rows) pair ≡ holds rows pair
unfolding holds undated_rows
holds_undated [] pair = refl
holds_undated (row ∷ rows) pair = ap (λ more. same pair row.key || more) (holds_undated rows pair)

pub count_undated : (rows : List Row) (pair : List ℕ) → rows_with (undated_rows rows) pair ≡ rows_with rows pair
unfolding rows_with undated_rows
count_undated [] pair = refl
count_undated (row ∷ rows) pair = ap (λ more. cond (same pair row.key) 1 0 + more) (count_undated rows pair)

pub length_undated : (rows : List Row) → length (undated_rows rows) ≡ length rows
unfolding undated_rows
length_undated [] = refl
length_undated (row ∷ rows) = ap suc (length_undated rows)

-- the target after a conversion that is not refused
module _ (source target : List ℕ) (whole : framed source ≡ true) (one : version source ≡ 1) (room : place 4 (used source) ≤ length target) where
  abbrev left : List ℕ
  left = sets target 0 (in_version2 source)

  count_small : used source ≤ 4294967295
  count_small = omega (arith, (framed_is source whole).fits, capacity_small source)

  size : length (in_version2 source) ≡ place 4 (used source)
  unfolding in_version2
  size = let rows : length (undated (used source) (drop 9 source)) ≡ used source * 78 = undated_length (used source) (drop 9 source) (first_rows source whole one) in omega arith

  left_is : left ≡ in_version2 source ++ drop (place 4 (used source)) target
  left_is = sets_front target (in_version2 source) (rw size room) ∙ rw size

  pub converted_length : length left ≡ length target
  converted_length = length-sets target 0 (in_version2 source)

  -- bytes behind the rows stay
  pub converted_later : drop (place 4 (used source)) left ≡ drop (place 4 (used source)) target
  converted_later = drop_sets_past (place 4 (used source)) target 0 (in_version2 source) (omega (arith, size))

  pub converted_version : version left ≡ 2
  unfolding version in_version2
  converted_version = ap version left_is

  pub converted_used : used left ≡ used source
  unfolding used in_version2
  converted_used =
      ap used left_is
      ∙ little_read 4 (used source) (undated (used source) (drop 9 source) ++ drop (place 4 (used source)) target) (omega (arith, count_small))

  pub with_day : day_width left ≡ 4
  unfolding day_width
  with_day = rw converted_version

  pub converted_framed : framed left ≡ true
  unfolding in_version2 starts_with
  converted_framed =
      let bytes : used source * 78 ≤ length target - 9 = omega arith in
      is_framed
      record {
        head = rw converted_length (omega arith);
        mark = rw left_is;
        known = rw converted_version;
        fits = rw converted_used (fits_bytes left count_small (rw (with_day, converted_length) bytes));
      }

  -- each row in its place, with the same pair, the same state and day 0
  pub converted_rows : rows_of left ≡ undated_rows (rows_of source)
  unfolding in_version2
  converted_rows =
      (λ i. rows_in (with_day i) (converted_used i) (drop 9 (left_is i)))
      ∙ rows_undated (used source) (drop 9 source) (drop (place 4 (used source)) target) (first_rows source whole one)
      ∙ (λ i. undated_rows (rows_in (sym (first_undated source one) i) (used source) (drop 9 source)))

  module _ (pair : List ℕ) where
    converted_look : look (rows_of left) pair ≡ undated_value (look (rows_of source) pair)
    converted_look = ap (λ rows. look rows pair) converted_rows ∙ look_undated (rows_of source) pair

    pub converted_found : first_row left pair ≡ first_row source pair
    unfolding first_row
    converted_found = rw (converted_framed, whole) (ap (λ rows. own_from 0 rows pair) converted_rows ∙ own_undated 0 (rows_of source) pair)

    pub converted_standing : standing left pair ≡ standing source pair
    unfolding standing
    converted_standing = rw (converted_framed, whole) (ap stands_as converted_look ∙ stands_undated (look (rows_of source) pair))

    pub converted_day : day_of left pair ≡ 0
    unfolding day_of
    converted_day =
        (λ i. little_endian (with_day i) (drop 1 (converted_look i)))
        ∙ day_undated (look (rows_of source) pair)
