-- Digits at fixed places: what a pattern tells of them, and what two of them write.
use mathlib.Core.Path.{◌≡◌, ◌∙◌, sym, refl, ap}
use mathlib.Core.Bool.{Bool, true, false, ◌&&◌, ◌||◌, true≢false}
use mathlib.Core.List.{List, [], ◌∷◌}
use mathlib.Core.Logic.{⊎_elim}
use Prim.Native.Nat.{ℕ, zero, suc, ◌+◌, ◌-◌, ◌*◌, ◌≤◌, ◌<◌}
use native.Mathlib.Nat.{add-zero}
use native.Mathlib.Omega.{arith}
use borrow.Author.Tests.{eqb-true, ltb-true, ltb-false}
use lib.Dec.{eqb, ltb}
use lib.ListN.{length, get_or, take, drop, get_or-eq_default}
use lib.Seq.{get_or-take, get_or-drop}
use Rattle.text.specs.declared.classes.Class.TheVariants.{Digit}
use Rattle.text.specs.Class.{in_class}
use Rattle.text.specs.Number.{digit_of, two_digits}
use Rattle.text.specs.Shape.{suits, shape}
use Rattle.text.proofs.Bools.{and_left, and_right, or_cases, by_test}
use Rattle.text.proofs.NumberLaws.{digit_yes}
use Rattle.calendar.specs.Places.{digits_at, pair_at, date_places, time_places}

-- a place that is among others
abbrev has : ℕ → List ℕ → Bool
has i [] = false
has i (j ∷ places) = eqb i j || has i places

one_of : (more s : List ℕ) (i : ℕ) → digits_at more s ≡ true → has i more ≡ true → in_class Digit (get_or s i 0) ≡ true
one_of [] s i e h = absurd (true≢false (sym h))
one_of (j ∷ more) s i e h =
    ⊎_elim
    (λ (p : eqb i j ≡ true). rw (eqb-true i j p) (and_left (in_class Digit (get_or s j 0)) (digits_at more s) e))
    (λ (q : has i more ≡ true). one_of more s i (and_right (in_class Digit (get_or s j 0)) (digits_at more s) e) q)
    (or_cases (eqb i j) (has i more) h)

pair_of_lem : (at : ℕ) (more s : List ℕ) → (has at more && has (at + 1) more) ≡ true → digits_at more s ≡ true → pair_at at s ≡ true
unfolding pair_at
pair_of_lem at more s h e =
    rw (one_of more s at e (and_left (has at more) (has (at + 1) more) h), one_of more s (at + 1) e (and_right (has at more) (has (at + 1) more) h))

-- each pair of a date, and of a time
module _ (s : List ℕ) where
  module _ (e : digits_at date_places s ≡ true) where
    pub century_there : pair_at 0 s ≡ true
    century_there = pair_of_lem 0 date_places s refl e

    pub year_there : pair_at 2 s ≡ true
    year_there = pair_of_lem 2 date_places s refl e

    pub month_there : pair_at 5 s ≡ true
    month_there = pair_of_lem 5 date_places s refl e

    pub day_there : pair_at 8 s ≡ true
    day_there = pair_of_lem 8 date_places s refl e

  module _ (e : digits_at time_places s ≡ true) where
    pub hour_there : pair_at 11 s ≡ true
    hour_there = pair_of_lem 11 time_places s refl e

    pub minute_there : pair_at 14 s ≡ true
    minute_there = pair_of_lem 14 time_places s refl e

    pub second_there : pair_at 17 s ≡ true
    second_there = pair_of_lem 17 time_places s refl e

-- the pattern has a digit at each of the places
abbrev pub marked : List ℕ → List ℕ → Bool
marked pattern [] = true
marked pattern (i ∷ places) = eqb (get_or pattern i 0) 100 && marked pattern places

marked_one : (pattern t : List ℕ) (i : ℕ) → shape pattern t ≡ true → eqb (get_or pattern i 0) 100 ≡ true → in_class Digit (get_or t i 0) ≡ true
unfolding shape suits
marked_one [] t i e h = absurd (true≢false (sym h))
marked_one (y ∷ pattern) [] i e h = absurd (true≢false (sym e))
marked_one (y ∷ pattern) (b ∷ t) zero e h = rw (eqb-true y 100 h) at (and_left (suits y b) (shape pattern t) e)
marked_one (y ∷ pattern) (b ∷ t) (suc i) e h = marked_one pattern t i (and_right (suits y b) (shape pattern t) e) h

pub by_pattern : (pattern t places : List ℕ) → marked pattern places ≡ true → shape pattern t ≡ true → digits_at places t ≡ true
by_pattern pattern t [] h e = refl
by_pattern pattern t (i ∷ places) h e =
    rw (marked_one pattern t i e (and_left (eqb (get_or pattern i 0) 100) (marked pattern places) h))
    (by_pattern pattern t places (and_right (eqb (get_or pattern i 0) 100) (marked pattern places) h) e)

-- what stands at places before n stands there in all of the cell
abbrev pub below : ℕ → List ℕ → Bool
below n [] = true
below n (i ∷ places) = ltb i n && below n places

pub of_front : (n : ℕ) (places s : List ℕ) → below n places ≡ true → digits_at places (take n s) ≡ digits_at places s
of_front n [] s h = refl
of_front n (i ∷ places) s h =
    λ j. in_class Digit (get_or-take n s i 0 (ltb-true i n (and_left (ltb i n) (below n places) h)) j)
    && of_front n places s (and_right (ltb i n) (below n places) h) j

-- past the end there is no digit
digit_within : (s : List ℕ) (i : ℕ) → in_class Digit (get_or s i 0) ≡ true → i < length s
digit_within s i e =
    by_test (ltb i (length s)) (ltb-true i (length s))
    (λ p. absurd (true≢false (sym (rw (get_or-eq_default s 0 (ltb-false i (length s) p)) at e))))

digit_is : (b : ℕ) → in_class Digit b ≡ true → digit_of b ≡ b - 48
unfolding digit_of
digit_is b e = rw e

-- two digits, each read as its byte
module _ (s : List ℕ) (at : ℕ) (e : pair_at at s ≡ true) where
  first : in_class Digit (get_or s at 0) ≡ true
  unfolding pair_at
  first = and_left (in_class Digit (get_or s at 0)) (in_class Digit (get_or s (at + 1) 0) && true) e

  second : in_class Digit (get_or s (at + 1) 0) ≡ true
  unfolding pair_at
  second = and_left (in_class Digit (get_or s (at + 1) 0)) true (and_right (in_class Digit (get_or s at 0)) (in_class Digit (get_or s (at + 1) 0) && true) e)

  pub two_within : at + 1 < length s
  two_within = digit_within s (at + 1) second

  pub first_small : (48 ≤ get_or s at 0) × (get_or s at 0 ≤ 57)
  first_small = digit_yes (get_or s at 0) first

  pub second_small : (48 ≤ get_or s (at + 1) 0) × (get_or s (at + 1) 0 ≤ 57)
  second_small = digit_yes (get_or s (at + 1) 0) second

  pub two_are : get_or s at 0 * 10 + get_or s (at + 1) 0 - 528 ≡ two_digits (drop at s)
  unfolding two_digits
  two_are =
      let a : get_or (drop at s) 0 0 ≡ get_or s at 0 = get_or-drop at s 0 0 ∙ ap (λ (i : ℕ). get_or s i 0) (add-zero at) in
      rw (a, get_or-drop at s 1 0, digit_is (get_or s at 0) first, digit_is (get_or s (at + 1) 0) second)
      (omega (arith, first_small, second_small))
