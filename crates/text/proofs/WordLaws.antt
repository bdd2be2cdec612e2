-- Words and shapes, from a place on.
use mathlib.Core.Path.{◌≡◌, ◌∙◌, sym, refl, ap}
use mathlib.Core.Bool.{Bool, true, false, ◌&&◌, ◌||◌, and-true, and-false, and_assoc}
use mathlib.Core.List.{List, [], ◌∷◌, ◌++◌}
use Prim.Native.Nat.{ℕ, zero, suc, max, ◌-◌, ◌≤◌, ◌<◌}
use native.Mathlib.Omega.{arith}
use borrow.Author.Tests.{eq-eqb, ne_eqb}
use lib.Dec.{eqb, eqb-suc-zero, eqb-suc-suc}
use lib.ListN.{length, get_or, take, drop, drop_of_length-le}
use lib.Seq.{drop-append_seam, take_all, take-nil}
use Rattle.std.specs.List.{list_all, zip}
use Rattle.text.specs.Word.{starts_with, same, among, one_of}
use Rattle.text.specs.Shape.{suits, shape}

-- a text shorter than the word does not begin with it
pub too_short : (word s : List ℕ) → length s < length word → false ≡ starts_with word s
unfolding starts_with
too_short [] s h = absurd (omega arith)
too_short (y ∷ word) [] h = refl
too_short (y ∷ word) (x ∷ s) h = go (eqb x y) (too_short word s (omega arith))
  where
    go : (t : Bool) → false ≡ starts_with word s → false ≡ (t && starts_with word s)
    go true e = e
    go false e = refl

-- the last byte of a word's beginning, and what is before it
begins_by : (word s : List ℕ) (i : ℕ) → i < length word → length word ≤ length s
    → starts_with (take (suc i) word) s ≡ (starts_with (take i word) s && eqb (get_or s i 0) (get_or word i 0))
unfolding starts_with
begins_by [] s i h room = absurd (omega arith)
begins_by (y ∷ word) [] i h room = absurd (omega arith)
begins_by (y ∷ word) (x ∷ s) zero h room = and-true (eqb x y)
begins_by (y ∷ word) (x ∷ s) (suc i) h room =
    ap (λ (t : Bool). eqb x y && t) (begins_by word s i (omega arith) (omega arith)) ∙ sym (and_assoc (eqb x y) (starts_with (take i word) s) (eqb (get_or s i 0) (get_or word i 0)))

-- the bytes from place i on are the word's
pub record EndedSoFar (word s : List ℕ) (i : ℕ) : Type 0 where
  pub within : i ≤ length word
  pub room : length word ≤ length s
  pub left : starts_with word s ≡ starts_with (take i word) s

pub ended_start : {word s : List ℕ} → length word ≤ length s → EndedSoFar word s (length word)
ended_start {word} {s} h = record { within = omega arith; room = h; left = rw (take_all (length word) word (omega arith)) }

module _ {word s : List ℕ} {n : ℕ} (so_far : EndedSoFar word s n) where
  left_by : 0 < n → starts_with word s ≡ (starts_with (take (n - 1) word) s && eqb (get_or s (n - 1) 0) (get_or word (n - 1) 0))
  left_by h =
      let e : n ≡ suc (n - 1) = omega arith in
      so_far.left ∙ ap (λ (k : ℕ). starts_with (take k word) s) e ∙ begins_by word s (n - 1) (omega (arith, so_far.within)) so_far.room

  pub ended_on : 0 < n → get_or s (n - 1) 0 ≡ get_or word (n - 1) 0 → EndedSoFar word s (n - 1)
  ended_on h e = record { within = omega (arith, so_far.within); room = so_far.room; left = left_by h ∙ rw (eq-eqb _ _ e, and-true) }

  pub ended_off : 0 < n → (get_or s (n - 1) 0 ≡ get_or word (n - 1) 0 → ⊥) → false ≡ starts_with word s
  ended_off h e = sym (left_by h ∙ rw (ne_eqb _ _ e, and-false))

  pub ended_all : n ≤ 0 → true ≡ starts_with word s
  unfolding starts_with
  ended_all h =
      let z : n ≡ 0 = omega arith in
      sym (so_far.left ∙ rw z)

-- what is long enough to begin with the word tells as much as all of the text
pub begins_within : (n : ℕ) (word s : List ℕ) → length word ≤ n → starts_with word (take n s) ≡ starts_with word s
unfolding starts_with
begins_within n [] s h = refl
begins_within n (y ∷ word) [] h = ap (starts_with (y ∷ word)) (take-nil n)
begins_within zero (y ∷ word) (x ∷ s) h = absurd (omega arith)
begins_within (suc n) (y ∷ word) (x ∷ s) h = ap (λ (t : Bool). eqb x y && t) (begins_within n word s (omega arith))

-- a text is the word if it begins with it and is as long
pub same_is : (word s : List ℕ) → (eqb (length s) (length word) && starts_with word s) ≡ same word s
unfolding starts_with same
same_is [] [] = refl
same_is [] (x ∷ s) = rw (eqb-suc-zero (length s))
same_is (y ∷ word) [] = and-false (eqb 0 (suc (length word)))
same_is (y ∷ word) (x ∷ s) = go (eqb x y) (same_is word s)
  where
    go : (t : Bool) → (eqb (length s) (length word) && starts_with word s) ≡ same word s
        → (eqb (suc (length s)) (suc (length word)) && (t && starts_with word s)) ≡ (t && same word s)
    go true e = rw (eqb-suc-suc (length s) (length word)) e
    go false e = and-false (eqb (suc (length s)) (suc (length word)))

-- a text of another length is of no shape
pub other_length : (pattern s : List ℕ) → (length s ≡ length pattern → ⊥) → false ≡ shape pattern s
unfolding shape
other_length [] [] h = absurd (h refl)
other_length [] (x ∷ s) h = refl
other_length (y ∷ pattern) [] h = refl
other_length (y ∷ pattern) (x ∷ s) h = go (suits y x) (other_length pattern s (λ e. h (ap suc e)))
  where
    go : (t : Bool) → false ≡ shape pattern s → false ≡ (t && shape pattern s)
    go true e = e
    go false e = refl

-- a shape asks each byte beside its letter
pub shape_each : (s pattern : List ℕ) → length s ≡ length pattern → list_all (λ (p : ℕ × ℕ). suits p.1 p.0) (zip s pattern) ≡ shape pattern s
unfolding shape
shape_each [] [] h = refl
shape_each [] (y ∷ pattern) h = absurd (omega arith)
shape_each (x ∷ s) [] h = absurd (omega arith)
shape_each (x ∷ s) (y ∷ pattern) h = ap (λ (t : Bool). suits y x && t) (shape_each s pattern (omega arith))

-- passing bytes is going on behind them
among_skip : (s : List ℕ) (skip : ℕ) (words : List ℕ) → among s skip words ≡ among s 0 (drop skip words)
unfolding among
among_skip s zero words = refl
among_skip s (suc skip) [] = refl
among_skip s (suc skip) (b ∷ words) = among_skip s skip words

pub other_width : (width : ℕ) (words s : List ℕ) → (length s ≡ width → ⊥) → false ≡ one_of width words s
unfolding one_of
other_width width words s h = rw (ne_eqb _ _ h)

pub of_width : {width : ℕ} (words s : List ℕ) → length s ≡ width → one_of width words s ≡ among s 0 words
unfolding one_of
of_width words s h = rw (eq-eqb _ _ h)

begins_before : (s x t : List ℕ) → length s ≤ length x → starts_with s (x ++ t) ≡ starts_with s x
unfolding starts_with
begins_before [] x t h = refl
begins_before (y ∷ s) [] t h = absurd (omega arith)
begins_before (y ∷ s) (b ∷ x) t h = ap (λ (r : Bool). eqb b y && r) (begins_before s x t (omega arith))

-- the first of the words, and those behind it; a text without bytes begins every word
pub among_word : (s x t : List ℕ) → length x ≡ max (length s) 1 → among s 0 (x ++ t) ≡ (starts_with s x || among s 0 t)
unfolding among starts_with
among_word s [] t h = absurd (omega arith)
among_word [] (b ∷ x) t h = refl
among_word (y ∷ s) (b ∷ x) t h =
    let n : suc (length s) - 1 ≡ length x = omega arith in
    let behind : among (y ∷ s) (length x) (x ++ t) ≡ among (y ∷ s) 0 t = among_skip (y ∷ s) (length x) (x ++ t) ∙ ap (among (y ∷ s) 0) (drop-append_seam x t) in
    rw n (λ i. begins_before (y ∷ s) (b ∷ x) t (omega arith) i || behind i)

-- too few bytes for a word
pub among_short : (s t : List ℕ) → length t < max (length s) 1 → among s 0 t ≡ false
unfolding among
among_short s [] h = refl
among_short s (b ∷ t) h =
    rw (← too_short s (b ∷ t) (omega arith)) (among_skip s (length s - 1) t ∙ (let k : length t ≤ length s - 1 = omega arith in rw (drop_of_length-le t k)))
