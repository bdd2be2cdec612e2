-- Words of several bytes: a text that begins with a key has the key's words, bytes are told by their word, and rows with another word are passed.
use mathlib.Core.Path.{◌≡◌, ◌∙◌, refl, sym, ap}
use mathlib.Core.Bool.{Bool, true, false, cond, ◌&&◌, ◌||◌, true≢false, and-true}
use mathlib.Core.List.{List, [], ◌∷◌}
use Prim.Native.Nat.{ℕ, zero, suc, ◌+◌, ◌*◌, ◌-◌, ◌/◌, ◌≤◌, ◌<◌}
use native.Mathlib.Nat.{suc-mul, div-mul-le_self, div-eq-sub-div, div-eq_of_lt}
use native.Mathlib.Numerals.{add-one}
use native.Mathlib.Omega.{arith}
use borrow.Author.Tests.{eq-eqb, eqb-true, eqb-false, ne_eqb}
use lib.Dec.{eqb, lit<}
use lib.ListN.{length, get_or, drop}
use lib.Seq.{drop-drop, drop-length}
use Rattle.std.specs.List.{starts_with as starts_with_by}
use Rattle.text.specs.Word.{starts_with}
use Rattle.text.specs.Number.{little_endian}
use Rattle.text.specs.Stride.{Rowed, has_word, some_of_four, first_of, next_row, PassedTo}
use Rattle.text.proofs.Bools.{and_left, and_right, or_left, or_right, by_test}

-- what begins with a key has, at each place of the key, the key's word
same_word : (place size : ℕ) (key s : List ℕ) → place + size ≤ length key → starts_with key s ≡ true
    → little_endian size (drop place s) ≡ little_endian size (drop place key)
unfolding starts_with
same_word zero zero key s h e = refl
same_word zero (suc n) [] s h e = absurd (omega arith)
same_word zero (suc n) (y ∷ key) [] h e = absurd (true≢false (sym e))
same_word zero (suc n) (y ∷ key) (x ∷ s) h e =
    λ i. eqb-true x y (and_left (eqb x y) (starts_with key s) e) i + 256 * same_word zero n key s (omega arith) (and_right (eqb x y) (starts_with key s) e) i
same_word (suc place) size [] s h e = absurd (omega arith)
same_word (suc place) size (y ∷ key) [] h e = absurd (true≢false (sym e))
same_word (suc place) size (y ∷ key) (x ∷ s) h e = same_word place size key s (omega arith) (and_right (eqb x y) (starts_with key s) e)

-- so what has another word does not begin with the key
pub other_word : (place size : ℕ) (key s : List ℕ) → place + size ≤ length key
    → (little_endian size (drop place s) ≡ little_endian size (drop place key) → ⊥) → starts_with key s ≡ false
other_word place size key s h e = by_test (starts_with key s) (λ t. absurd (e (same_word place size key s h t))) (λ t. t)

-- and no more does a row with another word than the key's
pub other_row : (place size : ℕ) {asked : ℕ} (key s : List ℕ) (at : ℕ) → place + size ≤ length key → asked ≡ little_endian size (drop place key)
    → has_word place size asked s at ≡ false → starts_with key (drop at s) ≡ false
other_row place size {asked} key s at h asks e =
    other_word place size key (drop at s) h (λ f. eqb-false _ _ e (ap (little_endian size) (sym (drop-drop place at s)) ∙ f ∙ sym asks))

-- bytes are told by the word that they write
pub record Bytes (s : List ℕ) : Type 0 where
  pub small : (i : ℕ) → get_or s i 0 < 256

bytes_behind : {x : ℕ} {s : List ℕ} → Bytes (x ∷ s) → Bytes s
bytes_behind b = record { small = λ i. b.small (suc i) }

word_passed : (n : ℕ) (word s : List ℕ) → Bytes word → Bytes s → n ≤ length word → n ≤ length s → little_endian n s ≡ little_endian n word
    → starts_with word s ≡ starts_with (drop n word) (drop n s)
unfolding starts_with
word_passed zero word s b c h l e = refl
word_passed (suc n) [] s b c h l e = absurd (omega arith)
word_passed (suc n) (y ∷ word) [] b c h l e = absurd (omega arith)
word_passed (suc n) (y ∷ word) (x ∷ s) b c h l e =
    let first : x ≡ y = omega (arith, b.small 0, c.small 0, e) in
    let more : little_endian n s ≡ little_endian n word = omega (arith, b.small 0, c.small 0, e) in
    rw (eq-eqb x y first) (word_passed n word s (bytes_behind b) (bytes_behind c) (omega arith) (omega arith) more)

-- a text that has a word's number in its bytes begins with it, and no other does
pub word_begins : (word s : List ℕ) → Bytes word → Bytes s → length word ≤ length s
    → eqb (little_endian (length word) s) (little_endian (length word) word) ≡ starts_with word s
unfolding starts_with
word_begins word s b c h =
    by_test
    (eqb (little_endian (length word) s) (little_endian (length word) word))
    (λ t.
    let e = eqb-true (little_endian (length word) s) (little_endian (length word) word) t in
    t ∙ sym (word_passed (length word) word s b c (omega arith) h e ∙ rw (drop-length word)))
    (λ t. t ∙ sym (other_word 0 (length word) word s (omega arith) (eqb-false (little_endian (length word) s) (little_endian (length word) word) t)))

pub bytes_none : Bytes []
bytes_none = record { small = λ i. lit< tt }

pub bytes_more : {x : ℕ} {s : List ℕ} → x < 256 → Bytes s → Bytes (x ∷ s)
bytes_more {x} {s} h b = record { small = each }
  where
    each : (i : ℕ) → get_or (x ∷ s) i 0 < 256
    each zero = h
    each (suc i) = b.small i

regroup : (p q r t u : Bool) → ((p && (q && (r && (t && true)))) && u) ≡ ((p && (q && (r && true))) && (t && (u && true)))
regroup true true true true u = sym (and-true u)
regroup true true true false u = refl
regroup true true false t u = refl
regroup true false r t u = refl
regroup false q r t u = refl

-- a mark of three letters and version 1 behind it, as the number of four bytes and a fifth
pub marked : (a b c : ℕ) (s : List ℕ) → Bytes (a ∷ b ∷ c ∷ 1 ∷ []) → Bytes s → 5 ≤ length s
    → (eqb (little_endian 4 s) (little_endian 4 (a ∷ b ∷ c ∷ 1 ∷ [])) && eqb (get_or s 4 0) 0) ≡ (starts_with (a ∷ b ∷ c ∷ []) s && eqb (little_endian 2 (drop 3 s)) 1)
unfolding starts_with
marked a b c [] m bytes h = absurd (omega arith)
marked a b c (x ∷ []) m bytes h = absurd (omega arith)
marked a b c (x ∷ y ∷ []) m bytes h = absurd (omega arith)
marked a b c (x ∷ y ∷ z ∷ []) m bytes h = absurd (omega arith)
marked a b c (x ∷ y ∷ z ∷ v ∷ []) m bytes h = absurd (omega arith)
marked a b c (x ∷ y ∷ z ∷ v ∷ w ∷ s) m bytes h =
    let behind : Bytes (v ∷ w ∷ s) = bytes_behind (bytes_behind (bytes_behind bytes)) in
    let version : Bytes (1 ∷ 0 ∷ []) = bytes_more (lit< tt) (bytes_more (lit< tt) bytes_none) in
    ap (λ t. t && eqb w 0) (word_begins (a ∷ b ∷ c ∷ 1 ∷ []) (x ∷ y ∷ z ∷ v ∷ w ∷ s) m bytes (omega arith))
    ∙ regroup (eqb x a) (eqb y b) (eqb z c) (eqb v 1) (eqb w 0)
    ∙ ap (λ t. (eqb x a && (eqb y b && (eqb z c && true))) && t) (sym (word_begins (1 ∷ 0 ∷ []) (v ∷ w ∷ s) version behind (omega arith)))

-- what std asks of a text's beginning: each byte of the word beside its own
turned : (x y : ℕ) → eqb y x ≡ eqb x y
turned x y = by_test (eqb x y) (λ t. rw (eqb-true x y t)) (λ t. rw t (ne_eqb y x (λ e. eqb-false x y t (sym e))))

pub begins_each : (s word : List ℕ) → starts_with_by eqb s word ≡ starts_with word s
unfolding starts_with
begins_each s [] = refl
begins_each [] (y ∷ word) = refl
begins_each (x ∷ s) (y ∷ word) = λ i. turned x y i && begins_each s word i

module _ {width place size : ℕ} (rowed : Rowed width place size) (asked : ℕ) (s : List ℕ) where
  -- one row, and those behind it; or none
  next_at : (at : ℕ) → at + width ≤ length s
      → next_row width place size asked s at ≡ cond (has_word place size asked s at) at (next_row width place size asked s (at + width))
  unfolding next_row first_of
  next_at at fits =
      let less : length s - at - width ≡ length s - (at + width) = omega arith in
      let one_more : (length s - at) / width ≡ suc ((length s - (at + width)) / width) = div-eq-sub-div rowed.nonzero (omega arith) ∙ rw (less, add-one) in
      rw one_more

  pub next_hit : (at : ℕ) → at + width ≤ length s → has_word place size asked s at ≡ true → at ≡ next_row width place size asked s at
  next_hit at fits e = sym (next_at at fits ∙ rw e)

  pub next_on : (at : ℕ) → at + width ≤ length s → has_word place size asked s at ≡ false
      → next_row width place size asked s at ≡ next_row width place size asked s (at + width)
  next_on at fits e = next_at at fits ∙ rw e

  pub next_none : (at : ℕ) → length s < at + width → at ≡ next_row width place size asked s at
  unfolding next_row first_of
  next_none at short = let none : (length s - at) / width ≡ 0 = div-eq_of_lt (omega arith) in rw none

  -- what holds of a place, and behind each row with another word where it holds of the row's place, holds of the next row's place
  pub next_keeps : (P : ℕ → Type 0) → ((at : ℕ) → at + width ≤ length s → has_word place size asked s at ≡ false → P at → P (at + width))
      → (from : ℕ) → P from → P (next_row width place size asked s from)
  unfolding next_row first_of
  next_keeps P on from p = go ((length s - from) / width) from refl p
    where
      go : (n at : ℕ) → (length s - at) / width ≡ n → P at → P (first_of n width (has_word place size asked s) at)
      go zero at e p = p
      go (suc n) at e p =
          let some : suc n * width ≤ length s - at = rw e at (div-mul-le_self (length s - at) width) in
          let fits : at + width ≤ length s = omega (arith, suc-mul n width, rowed.nonzero) in
          let less : length s - at - width ≡ length s - (at + width) = omega arith in
          let one_more : (length s - at) / width ≡ (length s - (at + width)) / width + 1 = div-eq-sub-div rowed.nonzero (omega arith) ∙ rw less in
          let fewer : (length s - (at + width)) / width ≡ n = omega arith in
          by_test
          (has_word place size asked s at)
          (λ t. rw t p)
          (λ t. rw t (go n (at + width) fewer (on at fits t p)))

  pub next_behind : (from : ℕ) → from ≤ next_row width place size asked s from
  next_behind from = next_keeps (λ at. from ≤ at) (λ at fits e h. omega arith) from (omega arith)

  -- none of four rows has the word, so the first that has it is behind them
  pub next_four : (at : ℕ) → at + 4 * width ≤ length s → some_of_four width place size asked s at ≡ false
      → next_row width place size asked s at ≡ next_row width place size asked s (at + 4 * width)
  next_four at fits e =
      let has : ℕ → Bool = has_word place size asked s in
      let three = or_left (has at || has (at + width) || has (at + 2 * width)) (has (at + 3 * width)) e in
      let two = or_left (has at || has (at + width)) (has (at + 2 * width)) three in
      let second : at + width + width ≡ at + 2 * width = omega arith in
      let third : at + 2 * width + width ≡ at + 3 * width = omega arith in
      let fourth : at + 3 * width + width ≡ at + 4 * width = omega arith in
      next_on at (omega arith) (or_left (has at) (has (at + width)) two)
      ∙ next_on (at + width) (omega arith) (or_right (has at) (has (at + width)) two)
      ∙ ap (next_row width place size asked s) second
      ∙ next_on (at + 2 * width) (omega arith) (or_right (has at || has (at + width)) (has (at + 2 * width)) three)
      ∙ ap (next_row width place size asked s) third
      ∙ next_on (at + 3 * width) (omega arith) (or_right (has at || has (at + width) || has (at + 2 * width)) (has (at + 3 * width)) e)
      ∙ ap (next_row width place size asked s) fourth

-- the rows from `from` to `at` have another word, and four more fit up to place `last`
pub record FoursSoFar (width place size asked : ℕ) (s : List ℕ) (from last at : ℕ) : Type 0 where
  pub rowed : Rowed width place size
  pub last_is : last + 4 * width ≡ length s
  pub passed : PassedTo width place size asked s from at

pub fours_none : {width place size asked : ℕ} {s : List ℕ} {from : ℕ} → from ≤ length s → PassedTo width place size asked s from from
fours_none h = record { within = h; left = refl }

pub fours_start : {width place size asked : ℕ} {s : List ℕ} {from last : ℕ} → Rowed width place size → from ≤ length s → last + 4 * width ≡ length s
    → FoursSoFar width place size asked s from last from
fours_start rowed h l = record { rowed = rowed; last_is = l; passed = fours_none h }

pub fours_on : {width place size asked : ℕ} {s : List ℕ} {from last at : ℕ} → FoursSoFar width place size asked s from last at → at ≤ last
    → some_of_four width place size asked s at ≡ false → FoursSoFar width place size asked s from last (at + 4 * width)
fours_on {asked = asked} {s = s} {at = at} so_far h e =
    record {
      rowed = so_far.rowed;
      last_is = so_far.last_is;
      passed =
          record {
            within = omega (arith, so_far.last_is);
            left = so_far.passed.left ∙ next_four so_far.rowed asked s at (omega (arith, so_far.last_is)) e;
          };
    }

-- the rows from `from` to `at` have another word
pub record NextSoFar (width place size asked : ℕ) (s : List ℕ) (from at : ℕ) : Type 0 where
  pub rowed : Rowed width place size
  pub passed : PassedTo width place size asked s from at

module _ {width place size asked : ℕ} {s : List ℕ} {from at : ℕ} (so_far : NextSoFar width place size asked s from at) where
  module _ (fits : at + width ≤ length s) {v : ℕ} (read : v ≡ little_endian size (drop (at + place) s)) where
    pub next_here : v ≡ asked → at ≡ next_row width place size asked s from
    next_here e = next_hit so_far.rowed asked s at fits (eq-eqb _ _ (sym read ∙ e)) ∙ sym so_far.passed.left

    pub next_past : (v ≡ asked → ⊥) → NextSoFar width place size asked s from (at + width)
    next_past e =
        record {
          rowed = so_far.rowed;
          passed = record { within = fits; left = so_far.passed.left ∙ next_on so_far.rowed asked s at fits (ne_eqb _ _ (λ f. e (read ∙ f))) };
        }

  pub next_end : length s < at + width → at ≡ next_row width place size asked s from
  next_end short = next_none so_far.rowed asked s at short ∙ sym so_far.passed.left
