-- Entities in a row, and the records in front of free ones.
use mathlib.Core.Path.{◌≡◌, refl, sym, ap, ◌∙◌}
use mathlib.Core.Bool.{Bool, true, false, cond, not, ◌&&◌, true≢false}
use mathlib.Core.List.{List, [], ◌∷◌, ◌++◌, map}
use Prim.Native.Nat.{ℕ, zero, suc, ◌<◌}
use native.Mathlib.Omega.{arith}
use lib.ListN.{length, get_or, set, take}
use Rattle.text.specs.Word.{same}
use Rattle.register.proofs.Words.{same_true}
use Rattle.text.proofs.Bools.{by_test, and_left, and_right, or_left, or_right}
use Rattle.summary.specs.declared.Record.{Record}
use Rattle.summary.specs.Counting.{blank}
use Rattle.summary.specs.Noting.{stops_at, first_stop, entity_of}
use Rattle.day.specs.Counts.{among}
use Rattle.day.specs.Summary.{all_free}

-- none is blank, and none stands twice
abbrev pub known : List (List ℕ) → Bool
known [] = true
known (f ∷ fs) = not (blank f) && known fs

abbrev pub distinct : List (List ℕ) → Bool
distinct [] = true
distinct (f ∷ fs) = not (among f fs) && distinct fs

pub known_take : (m : ℕ) (fs : List (List ℕ)) → known fs ≡ true → known (take m fs) ≡ true
known_take zero fs k = refl
known_take (suc m) [] k = refl
known_take (suc m) (f ∷ fs) k = rw (and_left (not (blank f)) (known fs) k) (known_take m fs (and_right (not (blank f)) (known fs) k))

pub among_take : (m : ℕ) (e : List ℕ) (fs : List (List ℕ)) → among e fs ≡ false → among e (take m fs) ≡ false
among_take zero e fs a = refl
among_take (suc m) e [] a = refl
among_take (suc m) e (f ∷ fs) a = rw (or_left (same e f) (among e fs) a) (among_take m e fs (or_right (same e f) (among e fs) a))

pub distinct_take : (m : ℕ) (fs : List (List ℕ)) → distinct fs ≡ true → distinct (take m fs) ≡ true
distinct_take zero fs d = refl
distinct_take (suc m) [] d = refl
distinct_take (suc m) (f ∷ fs) d =
    rw (among_take m f fs (unnot (among f fs) (and_left (not (among f fs)) (distinct fs) d))) (distinct_take m fs (and_right (not (among f fs)) (distinct fs) d))
  where
    unnot : (t : Bool) → not t ≡ true → t ≡ false
    unnot true h = sym h
    unnot false h = refl

-- the place of e in a row of entities, and how many there are where it is not among them
abbrev pub find : List ℕ → List (List ℕ) → ℕ
find e [] = 0
find e (f ∷ fs) = cond (same e f) 0 (suc (find e fs))

pub find_among : (e : List ℕ) (fs : List (List ℕ)) → among e fs ≡ true → find e fs < length fs
find_among e [] a = absurd (true≢false (sym a))
find_among e (f ∷ fs) a = by_test (same e f) (λ t. rw t (omega arith)) (λ t. let b : among e fs ≡ true = rw t at a in rw t (omega (arith, find_among e fs b)))

pub find_none : (e : List ℕ) (fs : List (List ℕ)) → among e fs ≡ false → find e fs ≡ length fs
find_none e [] a = refl
find_none e (f ∷ fs) a = rw (or_left (same e f) (among e fs) a) (ap suc (find_none e fs (or_right (same e f) (among e fs) a)))

pub first_not : (e f : List ℕ) (fs : List (List ℕ)) → same e f ≡ true → distinct (f ∷ fs) ≡ true → among e fs ≡ false
first_not e f fs t d =
    by_test (among e fs) (λ a. absurd (true≢false (sym (and_left (not (among f fs)) (distinct fs) d) ∙ rw (same_true e f t, a)))) (λ a. a)

-- records of entities in front of free ones
module _ (g : List ℕ → Record) (named : (f : List ℕ) → (g f).entity ≡ f) (e : List ℕ) where
  pub stop_find : (fs : List (List ℕ)) (rest : List Record) → known fs ≡ true → all_free rest ≡ true → first_stop entity_of e (map g fs ++ rest) ≡ find e fs
  unfolding first_stop stops_at
  stop_find [] [] k a = refl
  stop_find [] (r ∷ rest) k a = rw (and_left (blank r.entity) (all_free rest) a)
  stop_find (f ∷ fs) rest k a =
      by_test (blank f) (λ t. absurd (true≢false (sym (and_left (not (blank f)) (known fs) k) ∙ rw t)))
      (λ t. rw (named f, t) (ap (λ (n : ℕ). cond (same e f) 0 (suc n)) (stop_find fs rest (and_right (not (blank f)) (known fs) k) a)))

  pub get_or_find : (fs : List (List ℕ)) (rest : List Record) (d : Record) → among e fs ≡ true → get_or (map g fs ++ rest) (find e fs) d ≡ g e
  get_or_find [] rest d a = absurd (true≢false (sym a))
  get_or_find (f ∷ fs) rest d a = by_test (same e f) (λ t. rw t (ap g (same_true e f t))) (λ t. let b : among e fs ≡ true = rw t at a in rw t (get_or_find fs rest d b))

  module _ (g' : List ℕ → Record) (others : (f : List ℕ) → same e f ≡ false → g' f ≡ g f) where
    pub map_others : (fs : List (List ℕ)) → among e fs ≡ false → map g' fs ≡ map g fs
    map_others [] a = refl
    map_others (f ∷ fs) a = λ i. others f (or_left (same e f) (among e fs) a) i ∷ map_others fs (or_right (same e f) (among e fs) a) i

    pub set_find : (fs : List (List ℕ)) (rest : List Record) → distinct fs ≡ true → among e fs ≡ true → set (map g fs ++ rest) (find e fs) (g' e) ≡ map g' fs ++ rest
    set_find [] rest d a = absurd (true≢false (sym a))
    set_find (f ∷ fs) rest d a =
        by_test (same e f)
        (λ t. rw t (λ i. g' (sym (same_true e f t) i) ∷ (sym (map_others fs (first_not e f fs t d)) i ++ rest)))
        (λ t. let b : among e fs ≡ true = rw t at a in
        rw t (λ i. sym (others f t) i ∷ set_find fs rest (and_right (not (among f fs)) (distinct fs) d) b i))
