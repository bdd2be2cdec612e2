-- Flags as words: how large, which bit is which flag, how many are set.
use mathlib.Core.Path.{◌≡◌, ◌∙◌, refl, sym, ap}
use mathlib.Core.Bool.{Bool, true, false}
use mathlib.Core.List.{List, [], ◌∷◌, ◌++◌, append_assoc, append-nil}
use Prim.Native.Nat.{ℕ, zero, suc, ◌+◌, ◌*◌, ◌-◌, ◌/◌, ◌%◌, ◌^◌, ◌≤◌, ◌<◌}
use native.Mathlib.Nat.{zero-div, div-div-eq-div-mul, mul_comm, pow-suc, pow-le-pow_right}
use native.Mathlib.Omega.{arith}
use lib.Count.{ones, ones_step}
use borrow.Author.Tests.{ltb-true, ltb-false}
use lib.Dec.{ltb, lit<}
use lib.ListN.{length, get_or, take, drop, length-drop, length-append}
use lib.Seq.{get_or-take, get_or-drop}
use Rattle.text.proofs.Bools.{by_test}
use Rattle.verdict.specs.Verdict.{bit, word_of, words}
use Rattle.verdict.specs.Counted.{flags_set, bits_set, bit_at}

pub bit_small : (flag : Bool) → bit flag ≤ 1
bit_small true = omega arith
bit_small false = omega arith

word_under : (flags : List Bool) → word_of flags < 2 ^ length flags
unfolding word_of
word_under [] = lit< tt
word_under (flag ∷ flags) = rw (pow-suc 2 (length flags)) (omega (arith, bit_small flag, word_under flags))

pub word_below : (k : ℕ) (flags : List Bool) → length flags ≤ k → word_of flags < 2 ^ k
word_below k flags h = omega (arith, word_under flags, pow-le-pow_right {n = 2} (lit< tt) h)

-- w is the word of the flags that come after those that are left
pub record WordSoFar (flags left : List Bool) (w : ℕ) : Type 0 where
  pub done : List Bool
  pub whole : flags ≡ left ++ done
  pub value : w ≡ word_of done

none_left : (l : List Bool) → length l ≡ 0 → l ≡ []
none_left [] e = refl
none_left (flag ∷ l) e = absurd (omega arith)

pub word_start : (flags : List Bool) → WordSoFar flags flags 0
unfolding word_of
word_start flags = record { done = []; whole = sym (append-nil flags); value = refl }

module _ {flags left : List Bool} {w : ℕ} (so_far : WordSoFar flags left w) where
  pub word_end : length left ≡ 0 → w ≡ word_of flags
  word_end e = so_far.value ∙ ap word_of (sym (so_far.whole ∙ ap (λ l. l ++ so_far.done) (none_left left e)))

pub word_on : (left : List Bool) (flag : Bool) {flags before : List Bool} {w : ℕ} → WordSoFar flags before w → before ≡ left ++ (flag ∷ []) → WordSoFar flags left (w * 2 + bit flag)
unfolding word_of
word_on left flag so_far e =
    record {
      done = flag ∷ so_far.done;
      whole = so_far.whole ∙ ap (λ l. l ++ so_far.done) e ∙ append_assoc left (flag ∷ []) so_far.done;
      value = omega (arith, so_far.value);
    }

pub word_fits : {flags left : List Bool} {w : ℕ} → WordSoFar flags left w → length flags ≤ 64 → w < 2 ^ 64
word_fits {flags} {left} {w} so_far h = rw so_far.value (word_below 64 so_far.done (omega (arith, ap length so_far.whole, length-append left so_far.done)))

-- bit j of a word is flag j; past the flags every bit is 0
pub word_digit : (flags : List Bool) (j : ℕ) → word_of flags / 2 ^ j % 2 ≡ bit (get_or flags j false)
unfolding word_of
word_digit [] j = rw (zero-div (2 ^ j))
word_digit (flag ∷ flags) zero = omega (arith, bit_small flag)
word_digit (flag ∷ flags) (suc j) =
    let half : (bit flag + 2 * word_of flags) / 2 ≡ word_of flags = omega (arith, bit_small flag) in
    rw (pow-suc 2 j, mul_comm (2 ^ j) 2, ← div-div-eq-div-mul (bit flag + 2 * word_of flags) 2 (2 ^ j), half) (word_digit flags j)

pub word_ones : (flags : List Bool) → ones (word_of flags) ≡ flags_set flags
unfolding word_of flags_set ones
word_ones [] = refl
word_ones (flag ∷ flags) =
    let half : (bit flag + 2 * word_of flags) / 2 ≡ word_of flags = omega (arith, bit_small flag) in
    let low : (bit flag + 2 * word_of flags) % 2 ≡ bit flag = omega (arith, bit_small flag) in
    ones_step (bit flag + 2 * word_of flags) ∙ rw (low, half, word_ones flags)

pub flags_split : (n : ℕ) (flags : List Bool) → flags_set (take n flags) + flags_set (drop n flags) ≡ flags_set flags
unfolding flags_set
flags_split zero flags = omega arith
flags_split (suc n) [] = refl
flags_split (suc n) (flag ∷ flags) = omega (arith, flags_split n flags)

pub words_ones : (n : ℕ) (flags : List Bool) → length flags ≤ n * 64 → bits_set (words n flags) ≡ flags_set flags
unfolding flags_set
words_ones zero [] h = refl
words_ones zero (flag ∷ flags) h = absurd (omega arith)
words_ones (suc n) flags h =
    rw (word_ones (take 64 flags), words_ones n (drop 64 flags) (rw length-drop (omega arith))) (flags_split 64 flags)

pub words_digit : (n : ℕ) (flags : List Bool) (j : ℕ) → j < n * 64 → bit_at (words n flags) j ≡ bit (get_or flags j false)
words_digit zero flags j h = absurd (omega arith)
words_digit (suc n) flags j h =
    by_test (ltb j 64)
    (λ t.
    let k : j < 64 = ltb-true j 64 t in
    let q : j / 64 ≡ 0 = omega arith in
    let r : j % 64 ≡ j = omega arith in
    rw (q, r) (word_digit (take 64 flags) j ∙ rw (get_or-take 64 flags j false)))
    (λ t.
    let k : 64 ≤ j = ltb-false j 64 t in
    let q : j / 64 ≡ suc ((j - 64) / 64) = omega arith in
    let r : j % 64 ≡ (j - 64) % 64 = omega arith in
    let s : 64 + (j - 64) ≡ j = omega arith in
    rw (q, r) (words_digit n (drop 64 flags) (j - 64) (omega arith) ∙ rw (get_or-drop 64 flags (j - 64) false, s)))
