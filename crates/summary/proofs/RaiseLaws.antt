-- Counters raised by flags: the lowest bit of a word first, and the three words one after another.
use mathlib.Core.Path.{◌≡◌, refl, sym, ap, ◌∙◌}
use mathlib.Core.Bool.{Bool, true, false, ◌||◌, or_assoc, or_comm, true≢false}
use mathlib.Core.List.{List, [], ◌∷◌, ◌++◌, append-nil, append_assoc}
use Prim.Native.Nat.{ℕ, zero, suc, ◌+◌, ◌-◌, ◌*◌, ◌/◌, ◌%◌, ◌^◌, ◌≤◌, ◌<◌}
use native.Mathlib.Nat.{zero-add, pow-suc}
use native.Mathlib.Omega.{arith}
use lib.Count.{count_trailing_zeros}
use lib.Pow.{pow_pos}
use lib.ListN.{length, get_or, set, replicate, length-set, length-append}
use Rattle.verdict.specs.Bits.{bits_of, flags_in}
use Rattle.verdict.proofs.WordLaws.{odd_or_even, one_bit, bits_length, three}
use Rattle.summary.specs.Counting.{up, stuck, raised, any_stuck, Raising}

-- no flag of the first n is set
abbrev pub Clear : ℕ → List Bool → Type 0
Clear n flags = (j : ℕ) → j < n → get_or flags j false ≡ false

none_raised : (flags : List Bool) (counters : List ℕ) → Clear (length counters) flags → raised flags counters ≡ counters
unfolding raised up
none_raised [] counters clear = refl
none_raised (flag ∷ flags) [] clear = refl
none_raised (flag ∷ flags) (n ∷ counters) clear =
    λ i. ap (λ (b : Bool). up b n) (clear 0 (omega arith)) i ∷ none_raised flags counters (λ j h. clear (suc j) (omega arith)) i

none_stuck : (flags : List Bool) (counters : List ℕ) → Clear (length counters) flags → any_stuck flags counters ≡ false
unfolding any_stuck stuck
none_stuck [] counters clear = refl
none_stuck (flag ∷ flags) [] clear = refl
none_stuck (flag ∷ flags) (n ∷ counters) clear =
    ap (λ (b : Bool). stuck b n || any_stuck flags counters) (clear 0 (omega arith)) ∙ none_stuck flags counters (λ j h. clear (suc j) (omega arith))

-- a counter whose flag is set is raised first, and the flag is set no more
one_raised : (flags : List Bool) (counters : List ℕ) (t : ℕ) → get_or flags t false ≡ true → t < length counters
    → raised (set flags t false) (set counters t (up true (get_or counters t 0))) ≡ raised flags counters
unfolding raised up
one_raised [] counters t s h = absurd (true≢false (sym s))
one_raised (flag ∷ flags) [] t s h = absurd (omega arith)
one_raised (flag ∷ flags) (n ∷ counters) zero s h = ap (λ (b : Bool). up b n ∷ raised flags counters) (sym s)
one_raised (flag ∷ flags) (n ∷ counters) (suc t) s h = ap (λ (l : List ℕ). up flag n ∷ l) (one_raised flags counters t s (omega arith))

one_stuck : (flags : List Bool) (counters : List ℕ) (t x : ℕ) → get_or flags t false ≡ true → t < length counters
    → (stuck true (get_or counters t 0) || any_stuck (set flags t false) (set counters t x)) ≡ any_stuck flags counters
unfolding any_stuck stuck
one_stuck [] counters t x s h = absurd (true≢false (sym s))
one_stuck (flag ∷ flags) [] t x s h = absurd (omega arith)
one_stuck (flag ∷ flags) (n ∷ counters) zero x s h = ap (λ (b : Bool). stuck b n || any_stuck flags counters) (sym s)
one_stuck (flag ∷ flags) (n ∷ counters) (suc t) x s h =
    sym (or_assoc (stuck true (get_or counters t 0)) (stuck flag n) (any_stuck (set flags t false) (set counters t x)))
    ∙ ap (λ (b : Bool). b || any_stuck (set flags t false) (set counters t x)) (or_comm (stuck true (get_or counters t 0)) (stuck flag n))
    ∙ or_assoc (stuck flag n) (stuck true (get_or counters t 0)) (any_stuck (set flags t false) (set counters t x))
    ∙ ap (λ (b : Bool). stuck flag n || b) (one_stuck flags counters t x s (omega arith))

-- flags behind k that are not set
abbrev pub behind : ℕ → List Bool → List Bool
behind k flags = replicate k false ++ flags

behind_at : (k : ℕ) (flags : List Bool) (t : ℕ) → get_or (behind k flags) (k + t) false ≡ get_or flags t false
behind_at zero flags t = ap (λ (n : ℕ). get_or flags n false) (zero-add t)
behind_at (suc k) flags t =
    let e : suc k + t ≡ suc (k + t) = omega arith in ap (λ (n : ℕ). get_or (behind (suc k) flags) n false) e ∙ behind_at k flags t

behind_set : (k : ℕ) (flags : List Bool) (t : ℕ) → set (behind k flags) (k + t) false ≡ behind k (set flags t false)
behind_set zero flags t = ap (λ (n : ℕ). set flags n false) (zero-add t)
behind_set (suc k) flags t =
    let e : suc k + t ≡ suc (k + t) = omega arith in
    ap (λ (n : ℕ). set (behind (suc k) flags) n false) e ∙ ap (λ (l : List Bool). false ∷ l) (behind_set k flags t)

behind_clear : (k n : ℕ) (flags : List Bool) → Clear n flags → Clear (k + n) (behind k flags)
behind_clear zero n flags clear j h = clear j (omega arith)
behind_clear (suc k) n flags clear zero h = refl
behind_clear (suc k) n flags clear (suc j) h = behind_clear k n flags clear j (omega arith)

-- the lowest bit that is set
record LowBit (k w : ℕ) : Type 0 where
  is_set : get_or (bits_of k w) (count_trailing_zeros k w) false ≡ true
  cleared : bits_of k (w - 2 ^ count_trailing_zeros k w) ≡ set (bits_of k w) (count_trailing_zeros k w) false
  within : 2 ^ count_trailing_zeros k w ≤ w

low_bit : (k w : ℕ) → count_trailing_zeros k w < k → LowBit k w
unfolding count_trailing_zeros bits_of
low_bit zero w h = absurd (omega arith)
low_bit (suc k) w h =
    odd_or_even w
    (λ o.
    let e : (w - 1) % 2 ≡ 0 = omega arith in
    let half : (w - 1) / 2 ≡ w / 2 = omega arith in
    record { is_set = rw o; cleared = rw (o, e, half); within = rw o (omega arith) })
    (λ e.
    let h' : suc (count_trailing_zeros k (w / 2)) < suc k = rw e at h in
    let l : LowBit k (w / 2) = low_bit k (w / 2) (omega arith) in
    let p : 2 ^ suc (count_trailing_zeros k (w / 2)) ≡ 2 ^ count_trailing_zeros k (w / 2) * 2 = pow-suc 2 (count_trailing_zeros k (w / 2)) in
    let e' : (w - 2 ^ suc (count_trailing_zeros k (w / 2))) % 2 ≡ 0 = omega (arith, l.within) in
    let half : (w - 2 ^ suc (count_trailing_zeros k (w / 2))) / 2 ≡ w / 2 - 2 ^ count_trailing_zeros k (w / 2) = omega (arith, l.within) in
    record { is_set = rw e l.is_set; cleared = rw (e, e', half) (ap (λ (bits : List Bool). false ∷ bits) l.cleared); within = rw e (omega (arith, l.within)) })

low_clear : (k w : ℕ) → Clear (count_trailing_zeros k w) (bits_of k w)
unfolding count_trailing_zeros bits_of
low_clear zero w j h = absurd (omega arith)
low_clear (suc k) w zero h = odd_or_even w (λ o. absurd (omega (arith, rw o at h))) (λ e. rw e)
low_clear (suc k) w (suc j) h = odd_or_even w (λ o. absurd (omega (arith, rw o at h))) (λ e. low_clear k (w / 2) j (omega (arith, rw e at h)))

zero_clear : (k n : ℕ) → Clear n (bits_of k 0)
unfolding bits_of
zero_clear zero n j h = refl
zero_clear (suc k) n zero h = refl
zero_clear (suc k) n (suc j) h = zero_clear k (suc j) j (omega arith)

-- a number that is not 0 has a bit that is set
bit_under : (k w : ℕ) → (w ≡ 0 → ⊥) → w < 2 ^ k → count_trailing_zeros k w < k
unfolding count_trailing_zeros
bit_under zero w some h = absurd (some (omega arith))
bit_under (suc k) w some h =
    odd_or_even w
    (λ o. rw o (omega arith))
    (λ e.
    let half : w / 2 < 2 ^ k = omega (arith, pow-suc 2 k, h) in
    rw e (omega (arith, bit_under k (w / 2) (λ z. some (omega (arith, z, e))) half)))

-- raising by the bits of `left` leaves what raising by those of `word` leaves of the counters before
pub record RaisedSoFar (from word : ℕ) (before counters : List ℕ) (said : Bool) (left : ℕ) : Type 0 where
  pub length_is : length counters ≡ length before
  pub most : left ≤ word
  pub rest : raised (behind from (bits_of 64 left)) counters ≡ raised (behind from (bits_of 64 word)) before
  pub told : (said || any_stuck (behind from (bits_of 64 left)) counters) ≡ any_stuck (behind from (bits_of 64 word)) before

pub raised_start : {from word : ℕ} {before : List ℕ} → RaisedSoFar from word before before false word
raised_start = record { length_is = refl; most = omega arith; rest = refl; told = refl }

module _ {from word : ℕ} {before counters : List ℕ} {said : Bool} {left : ℕ} (so_far : RaisedSoFar from word before counters said left) where
  stopped : Clear (length counters) (behind from (bits_of 64 left)) → Raising (behind from (bits_of 64 word)) before said counters
  stopped clear =
      record {
        told = sym (or_comm said false) ∙ ap (λ (b : Bool). said || b) (sym (none_stuck (behind from (bits_of 64 left)) counters clear)) ∙ so_far.told;
        risen = sym (none_raised (behind from (bits_of 64 left)) counters clear) ∙ so_far.rest;
      }

  -- a bit that has no counter, and all behind it
  pub raised_stop : length counters ≤ from + count_trailing_zeros 64 left → Raising (behind from (bits_of 64 word)) before said counters
  raised_stop h = stopped (λ j k. behind_clear from (count_trailing_zeros 64 left) (bits_of 64 left) (low_clear 64 left) j (omega arith))

  pub raised_end : left ≡ 0 → Raising (behind from (bits_of 64 word)) before said counters
  raised_end e =
      stopped
      (λ j k. ap (λ (w : ℕ). get_or (behind from (bits_of 64 w)) j false) e ∙ behind_clear from (length counters) (bits_of 64 0) (zero_clear 64 (length counters)) j (omega arith))

  module _ (some : left ≡ 0 → ⊥) (small : word < 2 ^ 64) (h : count_trailing_zeros 64 left < length counters - from) where
    pub low_under : count_trailing_zeros 64 left < 64
    low_under = bit_under 64 left some (omega (arith, so_far.most))

    low : LowBit 64 left
    low = low_bit 64 left low_under

    one : 1 * 2 ^ count_trailing_zeros 64 left % 2 ^ 64 ≡ 2 ^ count_trailing_zeros 64 left
    one = one_bit (count_trailing_zeros 64 left) low_under

    pub low_at : from + count_trailing_zeros 64 left < length counters
    low_at = omega arith

    pub low_within : 1 * 2 ^ count_trailing_zeros 64 left % 2 ^ 64 ≤ left
    low_within = rw one low.within

    pub left_less : left - 1 * 2 ^ count_trailing_zeros 64 left % 2 ^ 64 < left
    left_less = rw one (omega (arith, low.within, pow_pos (count_trailing_zeros 64 left)))

    set_there : get_or (behind from (bits_of 64 left)) (from + count_trailing_zeros 64 left) false ≡ true
    set_there = behind_at from (bits_of 64 left) (count_trailing_zeros 64 left) ∙ low.is_set

    without : set (behind from (bits_of 64 left)) (from + count_trailing_zeros 64 left) false ≡ behind from (bits_of 64 (left - 2 ^ count_trailing_zeros 64 left))
    without = behind_set from (bits_of 64 left) (count_trailing_zeros 64 left) ∙ ap (behind from) (sym low.cleared)

    pub raised_on : {n : ℕ} {stays : Bool} → stays ≡ stuck true (get_or counters (from + count_trailing_zeros 64 left) 0) → n ≡ up true (get_or counters (from + count_trailing_zeros 64 left) 0)
        → RaisedSoFar from word before (set counters (from + count_trailing_zeros 64 left) n) (said || stays) (left - 1 * 2 ^ count_trailing_zeros 64 left % 2 ^ 64)
    raised_on {n} {stays} top more =
        let at = from + count_trailing_zeros 64 left in
        let flags = behind from (bits_of 64 left) in
        let rest = behind from (bits_of 64 (left - 2 ^ count_trailing_zeros 64 left)) in
        rw one
        (record {
          length_is = length-set counters at n ∙ so_far.length_is;
          most = omega (arith, so_far.most);
          rest = ap (λ (f : List Bool). raised f (set counters at n)) (sym without) ∙ ap (λ (x : ℕ). raised (set flags at false) (set counters at x)) more
              ∙ one_raised flags counters at set_there low_at ∙ so_far.rest;
          told = or_assoc said stays (any_stuck rest (set counters at n))
              ∙ ap (λ (b : Bool). said || b)
              (ap (λ (b : Bool). b || any_stuck rest (set counters at n)) top
              ∙ ap (λ (f : List Bool). stuck true (get_or counters at 0) || any_stuck f (set counters at n)) (sym without)
              ∙ one_stuck flags counters at n set_there low_at)
              ∙ so_far.told;
        })

-- flags behind flags
raised_both : (first second : List Bool) (counters : List ℕ) → raised (behind (length first) second) (raised first counters) ≡ raised (first ++ second) counters
unfolding raised up
raised_both [] second counters = refl
raised_both (flag ∷ first) second [] = refl
raised_both (flag ∷ first) second (n ∷ counters) = ap (λ (l : List ℕ). up flag n ∷ l) (raised_both first second counters)

stuck_both : (first second : List Bool) (counters : List ℕ)
    → (any_stuck first counters || any_stuck (behind (length first) second) (raised first counters)) ≡ any_stuck (first ++ second) counters
unfolding raised any_stuck stuck
stuck_both [] second counters = refl
stuck_both (flag ∷ first) second [] = refl
stuck_both (flag ∷ first) second (n ∷ counters) =
    or_assoc (stuck flag n) (any_stuck first counters) (any_stuck (behind (length first) second) (raised first counters))
    ∙ ap (λ (b : Bool). stuck flag n || b) (stuck_both first second counters)

module _ {first : List Bool} {before between after : List ℕ} {said told : Bool} (k : ℕ) (second : List Bool) (size : length first ≡ k)
    (one : Raising first before said between) (two : Raising (behind k second) between told after) where
  both : Raising (first ++ second) before (said || told) after
  both =
      record {
        told =
            (λ i. one.told i || (two.told ∙ ap (λ (n : ℕ). any_stuck (behind n second) between) (sym size) ∙ ap (any_stuck (behind (length first) second)) one.risen) i)
            ∙ stuck_both first second before;
        risen = two.risen ∙ ap (λ (n : ℕ). raised (behind n second) between) (sym size) ∙ ap (raised (behind (length first) second)) one.risen ∙ raised_both first second before;
      }

-- three words, one after another
module _ (words : List ℕ) (all : length words ≡ 3) {before one two after : List ℕ} {first second third : Bool}
    (r₁ : Raising (behind 0 (bits_of 64 (get_or words 0 0))) before first one) (r₂ : Raising (behind 64 (bits_of 64 (get_or words 1 0))) one second two)
    (r₃ : Raising (behind 128 (bits_of 64 (get_or words 2 0))) two third after) where
  abbrev bits : ℕ → List Bool
  bits k = bits_of 64 (get_or words k 0)

  flags_are : ((bits 0 ++ bits 1) ++ bits 2) ≡ flags_in words
  unfolding flags_in
  flags_are = append_assoc (bits 0) (bits 1) (bits 2) ∙ ap (λ (l : List Bool). bits 0 ++ (bits 1 ++ l)) (sym (append-nil (bits 2))) ∙ ap flags_in (sym (three words all))

  two_words : length (bits 0 ++ bits 1) ≡ 128
  two_words = rw (length-append (bits 0) (bits 1), bits_length 64 (get_or words 0 0), bits_length 64 (get_or words 1 0))

  by_words : Raising ((bits 0 ++ bits 1) ++ bits 2) before ((first || second) || third) after
  by_words = both 128 (bits 2) two_words (both 64 (bits 1) (bits_length 64 (get_or words 0 0)) r₁ r₂) r₃

  pub words_raised : Raising (flags_in words) before ((first || second) || third) after
  words_raised =
      record {
        told = by_words.told ∙ ap (λ (f : List Bool). any_stuck f before) flags_are;
        risen = by_words.risen ∙ ap (λ (f : List Bool). raised f before) flags_are;
      }
