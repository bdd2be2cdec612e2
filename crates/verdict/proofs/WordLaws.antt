-- The codes listed by the bits of words: the lowest bit of a word, bits behind bits, and the words of flags.
use mathlib.Core.Path.{◌≡◌, ◌∙◌, sym, refl, ap}
use mathlib.Core.Bool.{Bool, true, false}
use mathlib.Core.List.{List, [], ◌∷◌, ◌++◌, append_assoc, append-nil}
use Prim.Native.Nat.{ℕ, zero, suc, ◌+◌, ◌*◌, ◌-◌, ◌/◌, ◌%◌, ◌^◌, ◌≤◌, ◌<◌}
use native.Mathlib.Nat.{pow-suc, pow-le-pow_right}
use native.Mathlib.Numerals.{add-one}
use native.Mathlib.Omega.{arith}
use borrow.Author.Tests.{eqb-true, eqb-false, lt-ltb, le-ltb}
use lib.Count.{ones, ones_step, count_trailing_zeros, trailing_of_zero}
use lib.Dec.{eqb, lit<}
use lib.ListN.{length, get_or, take, drop, set, length-set, take-append-drop, length-append, length-drop}
use lib.Seq.{take-suc-set, drop-set-lt, append_snoc}
use Rattle.text.proofs.Bools.{by_test}
use Rattle.text.proofs.Lists.{rest_at}
use Rattle.verdict.specs.Codes.{codes, code_count}
use Rattle.verdict.specs.Verdict.{word_of, words, keep, pick, codes_found, verdict_of}
use Rattle.verdict.specs.Findings.{over}
use Rattle.verdict.specs.Counted.{bits_set}
use Rattle.verdict.specs.Bits.{bits_of, flags_in, listed_by, over_from, Listed}
use Rattle.verdict.proofs.Promises.{code_count_lem, bits_are_listed, ours}

-- the lowest bit that is set, if it has a code: that code is the first, and without the bit the others are left
pub record Lowest (k : ℕ) (table : List ℕ) (w : ℕ) : Type 0 where
  pub first : pick table (bits_of k w) ≡ get_or table (count_trailing_zeros k w) 0 ∷ pick table (bits_of k (w - 2 ^ count_trailing_zeros k w))
  pub within : 2 ^ count_trailing_zeros k w ≤ w

pub odd_or_even : (w : ℕ) {A : Type 0} → (w % 2 ≡ 1 → A) → (w % 2 ≡ 0 → A) → A
odd_or_even w f g = by_test (eqb (w % 2) 1) (λ t. f (eqb-true _ _ t)) (λ t. g (omega (arith, eqb-false (w % 2) 1 t)))

pub lowest : (k : ℕ) (table : List ℕ) (w : ℕ) → count_trailing_zeros k w < length table → length table ≤ k → Lowest k table w
unfolding count_trailing_zeros bits_of pick
lowest zero table w h g = absurd (omega arith)
lowest (suc k) [] w h g = absurd (omega arith)
lowest (suc k) (code ∷ table) w h g =
    odd_or_even w
    (λ o.
    let e : (w - 1) % 2 ≡ 0 = omega arith in
    let half : (w - 1) / 2 ≡ w / 2 = omega arith in
    record { first = rw (o, e, half); within = rw o (omega arith) })
    (λ e.
    let h' : suc (count_trailing_zeros k (w / 2)) < suc (length table) = rw e at h in
    let l : Lowest k table (w / 2) = lowest k table (w / 2) (omega arith) (omega arith) in
    let p : 2 ^ suc (count_trailing_zeros k (w / 2)) ≡ 2 ^ count_trailing_zeros k (w / 2) * 2 = pow-suc 2 (count_trailing_zeros k (w / 2)) in
    let e' : (w - 2 ^ suc (count_trailing_zeros k (w / 2))) % 2 ≡ 0 = omega (arith, l.within) in
    let half : (w - 2 ^ suc (count_trailing_zeros k (w / 2))) / 2 ≡ w / 2 - 2 ^ count_trailing_zeros k (w / 2) = omega (arith, l.within) in
    record { first = rw (e, e', half) l.first; within = rw e (omega (arith, l.within)) })

-- a bit that has no code, and all behind it: none is listed
pub none_lower : (k : ℕ) (table : List ℕ) (w : ℕ) → length table ≤ count_trailing_zeros k w → pick table (bits_of k w) ≡ []
unfolding count_trailing_zeros bits_of pick
none_lower zero [] w h = refl
none_lower zero (code ∷ table) w h = refl
none_lower (suc k) [] w h = refl
none_lower (suc k) (code ∷ table) w h =
    odd_or_even w (λ o. absurd (omega (arith, rw o at h))) (λ e. rw e (none_lower k table (w / 2) (omega (arith, rw e at h))))

-- no more codes are picked than bits are set
pick_few : (k : ℕ) (table : List ℕ) (w : ℕ) → length (pick table (bits_of k w)) ≤ ones w
unfolding bits_of pick
pick_few zero [] w = omega arith
pick_few zero (code ∷ table) w = omega arith
pick_few (suc k) [] w = omega arith
pick_few (suc k) (code ∷ table) w =
    odd_or_even w
    (λ o. rw o (omega (arith, ones_step w, pick_few k table (w / 2))))
    (λ e. rw e (omega (arith, ones_step w, pick_few k table (w / 2))))

-- one bit as the code writes it
pub one_bit : (t : ℕ) → t < 64 → 1 * 2 ^ t % 2 ^ 64 ≡ 2 ^ t
one_bit t h =
    let q : t ≤ 63 = omega arith in
    let p : 2 ^ t ≤ 2 ^ 63 = pow-le-pow_right {n = 2} (lit< tt) q in
    omega arith

-- one entry written, and the others behind it
over_cons : (n c : ℕ) (l entries : List ℕ) → n < length entries → over_from n (c ∷ l) entries ≡ over_from (n + 1) l (set entries n c)
unfolding over_from
over_cons n c l entries h =
    let front : take (n + 1) (set entries n c) ≡ take n entries ++ (c ∷ []) = rw add-one (take-suc-set entries n c h) in
    let back : drop (n + 1) (set entries n c) ≡ drop (n + 1) entries = drop-set-lt (n + 1) entries n c (omega arith) in
    rw (front, back, append_snoc (take n entries) c (over l (drop (n + 1) entries)), rest_at 0 entries n h)

over_none : (n : ℕ) (entries : List ℕ) → over_from n [] entries ≡ entries
unfolding over_from
over_none n entries = take-append-drop n entries

-- a list behind a list
over_both : (n : ℕ) (a b entries : List ℕ) → n + length a + length b ≤ length entries
    → over_from (n + length a) b (over_from n a entries) ≡ over_from n (a ++ b) entries
over_both n [] b entries h = let z : n + 0 ≡ n = omega arith in rw (over_none n entries, z)
over_both n (c ∷ a) b entries h =
    let e : n + suc (length a) ≡ n + 1 + length a = omega arith in
    let r : n < length entries = omega arith in
    rw (e, over_cons n c a entries r, over_cons n c (a ++ b) entries r)
    (over_both (n + 1) a b (set entries n c) (rw length-set (omega arith)))

-- listing the bits of `left` from n on leaves what listing those of `word` from the start leaves
pub record BitsSoFar (table : List ℕ) (word : ℕ) (before : List ℕ) (start : ℕ) (entries : List ℕ) (n left : ℕ) : Type 0 where
  pub length_is : length entries ≡ length before
  pub count : n + length (pick table (bits_of 64 left)) ≡ start + length (pick table (bits_of 64 word))
  pub rest : over_from n (pick table (bits_of 64 left)) entries ≡ over_from start (pick table (bits_of 64 word)) before

pub bits_start : {table : List ℕ} {word : ℕ} {before : List ℕ} {start : ℕ} → BitsSoFar table word before start before start word
bits_start = record { length_is = refl; count = refl; rest = refl }

module _ {table : List ℕ} {word : ℕ} {before : List ℕ} {start : ℕ} {entries : List ℕ} {n left : ℕ}
    (so_far : BitsSoFar table word before start entries n left) where
  pub bits_stop : length table ≤ count_trailing_zeros 64 left → Listed (pick table (bits_of 64 word)) start before n entries
  bits_stop h =
      let none = none_lower 64 table left h in
      record {
        behind = omega (arith, so_far.count, ap length none);
        entries_are = sym (over_none n entries) ∙ (rw none at so_far.rest);
      }

  pub bits_end : left ≡ 0 → length table ≤ 64 → Listed (pick table (bits_of 64 word)) start before n entries
  bits_end e h = bits_stop (rw (e, trailing_of_zero 64) h)

  module _ (room : (length table ≤ 64) × (start + ones word ≤ length before)) (h : count_trailing_zeros 64 left < length table) where
    pub low : Lowest 64 table left
    low = lowest 64 table left h room.0

    pub bit_room : n < length entries
    bit_room = omega (arith, so_far.count, ap length low.first, pick_few 64 table word, so_far.length_is, room.1)

    pub bits_on : BitsSoFar table word before start (set entries n (get_or table (count_trailing_zeros 64 left) 0)) (n + 1) (left - 2 ^ count_trailing_zeros 64 left)
    bits_on =
        record {
          length_is = length-set entries n (get_or table (count_trailing_zeros 64 left) 0) ∙ so_far.length_is;
          count = omega (arith, so_far.count, ap length low.first);
          rest = sym (over_cons n (get_or table (count_trailing_zeros 64 left) 0) (pick table (bits_of 64 (left - 2 ^ count_trailing_zeros 64 left))) entries bit_room)
              ∙ (rw low.first at so_far.rest);
        }

-- bits behind bits take the table's codes in turn
pub bits_length : (n w : ℕ) → length (bits_of n w) ≡ n
unfolding bits_of
bits_length zero w = refl
bits_length (suc n) w = ap suc (bits_length n (w / 2))

pick_keep : (flag : Bool) (code : ℕ) (a b : List ℕ) → keep flag code (a ++ b) ≡ keep flag code a ++ b
pick_keep true code a b = refl
pick_keep false code a b = refl

pub pick_append : (table : List ℕ) (a b : List Bool) → pick table (a ++ b) ≡ pick (take (length a) table) a ++ pick (drop (length a) table) b
unfolding pick
pick_append [] [] b = refl
pick_append [] (flag ∷ a) b = refl
pick_append (code ∷ table) [] b = refl
pick_append (code ∷ table) (flag ∷ a) b = ap (keep flag code) (pick_append table a b) ∙ pick_keep flag code (pick (take (length a) table) a) (pick (drop (length a) table) b)

-- what is listed behind a list
over_length : (n : ℕ) (l entries : List ℕ) → n + length l ≤ length entries → length (over_from n l entries) ≡ length entries
over_length n [] entries h = ap length (over_none n entries)
over_length n (c ∷ l) entries h =
    ap length (over_cons n c l entries (omega arith)) ∙ over_length (n + 1) l (set entries n c) (rw length-set (omega arith)) ∙ length-set entries n c

module _ {a before entries : List ℕ} {start mid : ℕ} (first : Listed a start before mid entries) where
  pub listed_length : start + length a ≤ length before → length entries ≡ length before
  listed_length h = ap length first.entries_are ∙ over_length start a before h

  pub listed_both : {b : List ℕ} {end : ℕ} {entries₁ : List ℕ} → Listed b mid entries end entries₁ → start + length a + length b ≤ length before
      → Listed (a ++ b) start before end entries₁
  listed_both {b} second h =
      record {
        behind = omega (arith, first.behind, second.behind, length-append a b);
        entries_are = second.entries_are ∙ rw (first.behind, first.entries_are) (over_both start a b before h);
      }

pub listed_all : {listed before entries : List ℕ} {end : ℕ} → Listed listed 0 before end entries → entries ≡ over listed before
unfolding over_from
listed_all listed = listed.entries_are

-- the codes of three words, one word after the other
pub three : (l : List ℕ) → length l ≡ 3 → l ≡ get_or l 0 0 ∷ get_or l 1 0 ∷ get_or l 2 0 ∷ []
three [] h = absurd (omega arith)
three (u ∷ []) h = absurd (omega arith)
three (u ∷ v ∷ []) h = absurd (omega arith)
three (u ∷ v ∷ w ∷ []) h = refl
three (u ∷ v ∷ w ∷ x ∷ l) h = absurd (omega arith)

words_listed : (words : List ℕ) → length words ≡ 3
    → pick codes (flags_in words)
    ≡ pick (take 64 codes) (bits_of 64 (get_or words 0 0))
    ++ (pick (take 64 (drop 64 codes)) (bits_of 64 (get_or words 1 0)) ++ pick (drop 64 (drop 64 codes)) (bits_of 64 (get_or words 2 0)))
unfolding flags_in
words_listed words h =
    let u = get_or words 0 0 in
    let v = get_or words 1 0 in
    let w = get_or words 2 0 in
    ap (λ (l : List ℕ). pick codes (flags_in l)) (three words h)
    ∙ (rw (bits_length 64 u) at (pick_append codes (bits_of 64 u) (bits_of 64 v ++ (bits_of 64 w ++ []))))
    ∙ ap (λ (l : List ℕ). pick (take 64 codes) (bits_of 64 u) ++ l)
    ((rw (bits_length 64 v) at (pick_append (drop 64 codes) (bits_of 64 v) (bits_of 64 w ++ [])))
    ∙ rw (append-nil (bits_of 64 w)))

listed_over : (words entries : List ℕ) → bits_set words ≤ length entries → over (codes_found (flags_in words)) entries ≡ listed_by words entries
unfolding listed_by
listed_over words entries h = rw (le-ltb (length entries) (bits_set words) h)

-- the bits that are set in three words
abbrev ones_in : List ℕ → ℕ
ones_in words = ones (get_or words 0 0) + ones (get_or words 1 0) + ones (get_or words 2 0)

bits_three : (words : List ℕ) → length words ≡ 3 → bits_set words ≡ ones_in words
bits_three words h = ap bits_set (three words h) ∙ omega arith

-- a buffer without room stays
pub listed_not : (words entries : List ℕ) {count : ℕ} → count ≡ bits_set words → length entries < count → entries ≡ listed_by words entries
unfolding listed_by
listed_not words entries counted short = rw (lt-ltb (length entries) (bits_set words) (omega (arith, counted)))

-- there is room for each word's codes behind those of the words before it
module _ (words : List ℕ) (all : length words ≡ 3) {n count : ℕ} {before one : List ℕ} (counted : count ≡ bits_set words) (room : count ≤ length before)
    (first : Listed (pick (take 64 codes) (bits_of 64 (get_or words 0 0))) 0 before n one) where
  few : length (pick (take 64 codes) (bits_of 64 (get_or words 0 0))) ≤ ones (get_or words 0 0)
  few = pick_few 64 (take 64 codes) (get_or words 0 0)

  pub second_room : n + ones (get_or words 1 0) ≤ length one
  second_room = omega (arith, first.behind, few, bits_three words all, listed_length first (omega (arith, few, bits_three words all)))

  module _ {m : ℕ} {two : List ℕ} (second : Listed (pick (take 64 (drop 64 codes)) (bits_of 64 (get_or words 1 0))) n one m two) where
    few_more : length (pick (take 64 (drop 64 codes)) (bits_of 64 (get_or words 1 0))) ≤ ones (get_or words 1 0)
    few_more = pick_few 64 (take 64 (drop 64 codes)) (get_or words 1 0)

    both : Listed (pick (take 64 codes) (bits_of 64 (get_or words 0 0)) ++ pick (take 64 (drop 64 codes)) (bits_of 64 (get_or words 1 0))) 0 before m two
    both = listed_both first second (omega (arith, few, few_more, bits_three words all))

    size : length (pick (take 64 codes) (bits_of 64 (get_or words 0 0)) ++ pick (take 64 (drop 64 codes)) (bits_of 64 (get_or words 1 0))) ≤ ones (get_or words 0 0) + ones (get_or words 1 0)
    size = rw length-append (omega (arith, few, few_more))

    pub third_room : m + ones (get_or words 2 0) ≤ length two
    third_room = omega (arith, both.behind, size, bits_three words all, listed_length both (omega (arith, size, bits_three words all)))

    pub three_listed : {end : ℕ} {listed : List ℕ} → Listed (pick (drop 64 (drop 64 codes)) (bits_of 64 (get_or words 2 0))) m two end listed
        → listed ≡ listed_by words before
    three_listed third =
        let last : length (pick (drop 64 (drop 64 codes)) (bits_of 64 (get_or words 2 0))) ≤ ones (get_or words 2 0) = pick_few 64 (drop 64 (drop 64 codes)) (get_or words 2 0) in
        listed_all (listed_both both third (omega (arith, size, last, bits_three words all)))
        ∙ ap (λ (l : List ℕ). over l before)
        (append_assoc (pick (take 64 codes) (bits_of 64 (get_or words 0 0))) (pick (take 64 (drop 64 codes)) (bits_of 64 (get_or words 1 0))) (pick (drop 64 (drop 64 codes)) (bits_of 64 (get_or words 2 0)))
        ∙ sym (words_listed words all))
        ∙ listed_over words before (omega arith)

length_take_most : (n : ℕ) (l : List Bool) → length (take n l) ≤ n
length_take_most zero l = omega arith
length_take_most (suc n) [] = omega arith
length_take_most (suc n) (flag ∷ l) = omega (arith, length_take_most n l)

-- the words of flags list what the flags do
pick_blank : (table : List ℕ) → pick table [] ≡ []
unfolding pick
pick_blank [] = refl
pick_blank (code ∷ table) = refl

word_bits : (n : ℕ) (table : List ℕ) (flags more : List Bool) → length flags ≤ n
    → pick table (bits_of n (word_of flags) ++ more) ≡ pick (take n table) flags ++ pick (drop n table) more
unfolding bits_of word_of pick
word_bits zero table [] more h = refl
word_bits zero table (flag ∷ flags) more h = absurd (omega arith)
word_bits (suc n) [] flags more h = refl
word_bits (suc n) (code ∷ table) [] more h = rw (pick_blank (take n table)) at (word_bits n table [] more (omega arith))
word_bits (suc n) (code ∷ table) (true ∷ flags) more h =
    let low : (1 + 2 * word_of flags) % 2 ≡ 1 = omega arith in
    let half : (1 + 2 * word_of flags) / 2 ≡ word_of flags = omega arith in
    rw (low, half) (ap (λ (l : List ℕ). code ∷ l) (word_bits n table flags more (omega arith)))
word_bits (suc n) (code ∷ table) (false ∷ flags) more h =
    let low : (0 + 2 * word_of flags) % 2 ≡ 0 = omega arith in
    let half : (0 + 2 * word_of flags) / 2 ≡ word_of flags = omega arith in
    rw (low, half) (word_bits n table flags more (omega arith))

pick_parts : (n : ℕ) (table : List ℕ) (flags : List Bool) → pick (take n table) (take n flags) ++ pick (drop n table) (drop n flags) ≡ pick table flags
unfolding pick
pick_parts zero table flags = refl
pick_parts (suc n) [] flags = refl
pick_parts (suc n) (code ∷ table) [] = pick_blank (drop n table)
pick_parts (suc n) (code ∷ table) (flag ∷ flags) =
    sym (pick_keep flag code (pick (take n table) (take n flags)) (pick (drop n table) (drop n flags))) ∙ ap (keep flag code) (pick_parts n table flags)

pub words_flags : (n : ℕ) (table : List ℕ) (flags : List Bool) → length table ≤ n * 64 → pick table (flags_in (words n flags)) ≡ pick table flags
unfolding flags_in pick
words_flags zero [] flags h = refl
words_flags zero (code ∷ table) flags h = absurd (omega arith)
words_flags (suc n) table flags h =
    word_bits 64 table (take 64 flags) (flags_in (words n (drop 64 flags))) (length_take_most 64 flags)
    ∙ ap (λ (l : List ℕ). pick (take 64 table) (take 64 flags) ++ l) (words_flags n (drop 64 table) (drop 64 flags) (rw length-drop (omega arith)))
    ∙ pick_parts 64 table flags

-- the words of a verdict list the codes that its flags find
pub verdict_lists : (flags : List Bool) (entries : List ℕ) → length flags ≡ code_count → length (codes_found flags) ≤ length entries
    → listed_by (verdict_of flags).words entries ≡ over (codes_found flags) entries
unfolding verdict_of
verdict_lists flags entries all room =
    sym (listed_over (words 3 flags) entries (omega (arith, bits_are_listed (ours flags all) 3 (omega arith))))
    ∙ rw (words_flags 3 codes flags (omega (arith, code_count_lem)))
