-- The pass over a line: what a step adds, how steps follow one another, and what the tables are at its end.
use mathlib.Core.Path.{◌≡◌, ◌∙◌, refl, sym, ap}
use mathlib.Core.Bool.{Bool, true, false, ◌&&◌}
use mathlib.Core.List.{List, [], ◌∷◌, ◌++◌, map, append_assoc, append-nil}
use Prim.Native.Nat.{ℕ, zero, suc, ◌+◌, ◌≤◌, ◌<◌}
use native.Mathlib.Numerals.{add-one}
use native.Mathlib.Omega.{arith}
use borrow.Author.Tests.{ne_eqb, leb-true, leb-false, ltb-true, ltb-false}
use lib.Dec.{leb, ltb}
use lib.ListN.{length, get_or, take, drop, set, replicate, length-set}
use lib.Seq.{take-suc, take-suc-set, take_all, take-set-le, get_or-take, drop-length}
use Rattle.std.specs.Prelude.{None}
use Rattle.text.proofs.Bools.{by_test, and_left, and_right}
use Rattle.text.proofs.Lists.{rest_at}
use Rattle.cells.specs.Cells.{is_bar, bars_of}
use Rattle.cells.specs.Split.{bar_places, starts_of, ends_of, Tabled}
use Rattle.cells.specs.Parted.{split_of}
use Rattle.cells.specs.Pass.{Met, Ahead, Walked, Over}

-- what a store at the end of the filled part adds
push : (l : List ℕ) (k a : ℕ) → k < length l → take (k + 1) (set l k a) ≡ take k l ++ (a ∷ [])
push l k a h = rw add-one (take-suc-set l k a h)

map_end : (l : List ℕ) (a : ℕ) → map suc (l ++ (a ∷ [])) ≡ map suc l ++ (suc a ∷ [])
map_end [] a = refl
map_end (b ∷ l) a = ap (λ (m : List ℕ). suc b ∷ m) (map_end l a)

abbrev one : Bool → ℕ
one false = 0
one true = 1

pub met_none : (line : List ℕ) → Met line (replicate 80 0) 0 0
met_none line = record { within = omega arith; wide = refl; count = omega arith; first = refl }

-- a step: the place is written, and counts if the byte is a bar
module _ {line places : List ℕ} {bars i : ℕ} (ahead : Ahead 1 line places bars i) where
  h : i < length line
  h = omega (arith, ahead.bytes)

  w : bars < length places
  w = omega (arith, ahead.entries, ahead.met.wide)

  step_bar : is_bar (get_or line i 0) ≡ true → Met line (set places bars i) (bars + 1) (i + 1)
  step_bar t =
      let m = ahead.met in
      let c : bars_of (drop i line) ≡ suc (bars_of (drop (i + 1) line)) = rw (rest_at 0 line i h, t) in
      let p : bar_places i (drop i line) ≡ i ∷ bar_places (i + 1) (drop (i + 1) line) = rw (rest_at 0 line i h, t, add-one i) in
      record {
        within = omega arith;
        wide = length-set places bars i ∙ m.wide;
        count = omega (arith, m.count);
        first = rw (push places bars i w, append_assoc) (rw p at m.first);
      }

  step_other : is_bar (get_or line i 0) ≡ false → Met line (set places bars i) (bars + 0) (i + 1)
  step_other t =
      let m = ahead.met in
      let c : bars_of (drop i line) ≡ bars_of (drop (i + 1) line) = rw (rest_at 0 line i h, t) in
      let p : bar_places i (drop i line) ≡ bar_places (i + 1) (drop (i + 1) line) = rw (rest_at 0 line i h, t, add-one i) in
      let z : bars + 0 ≡ bars = omega arith in
      record {
        within = omega arith;
        wide = length-set places bars i ∙ m.wide;
        count = omega (arith, m.count);
        first = rw (z, take-set-le bars places bars i (omega arith)) (rw p at m.first);
      }

  pub stepped : Walked 1 line (set places bars i) bars (bars + one (is_bar (get_or line i 0))) i
  stepped = by_test (is_bar (get_or line i 0)) (λ t. rw t (record { met = step_bar t; few = omega arith })) (λ t. rw t (record { met = step_other t; few = omega arith }))

-- n bytes are walked part by part
module _ {n : ℕ} {line places : List ℕ} {bars i : ℕ} (ahead : Ahead n line places bars i) where
  pub part_of : {k : ℕ} → k ≤ n → Ahead k line places bars i
  part_of h = record { met = ahead.met; bytes = omega (arith, ahead.bytes); entries = omega (arith, ahead.entries) }

  pub part_after : {j k more : ℕ} {places₁ : List ℕ} → j + k ≤ n → Walked j line places₁ bars more i → Ahead k line places₁ more (i + j)
  part_after h w = record { met = w.met; bytes = omega (arith, ahead.bytes); entries = omega (arith, ahead.entries, w.few) }

pub walked_on : {j k bars more most i : ℕ} {line places places₁ : List ℕ}
    → Walked j line places bars more i → Walked k line places₁ more most (i + j) → Walked (j + k) line places₁ bars most i
walked_on {j} {k} {i = i} first second =
    let e : i + j + k ≡ i + (j + k) = omega arith in
    record { met = rw e at second.met; few = omega (arith, first.few, second.few) }

-- the pass goes on while there are bytes and not too many bars
module _ {line places : List ℕ} {bars i : ℕ} (met : Met line places bars i) where
  pub one_ahead : i < length line → bars ≤ 64 → Ahead 1 line places bars i
  one_ahead h k = record { met = met; bytes = omega arith; entries = omega arith }

  pub sixteen_ahead : i + 16 ≤ length line → bars ≤ 64 → Ahead 16 line places bars i
  sixteen_ahead h k = record { met = met; bytes = h; entries = omega arith }

  met_end : length line ≤ i → Met line places bars (length line)
  met_end h = let e : i ≡ length line = omega (arith, met.within) in rw e at met

  pub over_many : 64 < bars → Over line places bars
  over_many h = record { whole = λ e. absurd (omega arith); other = λ e f. omega (arith, f, met.count) }

  pub over_end : length line ≤ i → Over line places bars
  over_end h =
      let m : Met line places bars (length line) = met_end h in
      record { whole = λ e. rw e at m; other = λ e f. omega (arith, e, f, m.count, ap bars_of (drop-length line)) }

pub too_many : {line places : List ℕ} {bars : ℕ} → Over line places bars → 64 < bars → None ≡ split_of line
unfolding split_of
too_many {line} over h = rw (ne_eqb (bars_of line) 64 (over.other (λ e. omega arith)))

pub not_whole_lem : {line places : List ℕ} {bars : ℕ} → Over line places bars → (bars ≡ 64 → ⊥) → None ≡ split_of line
unfolding split_of
not_whole_lem {line} over e = rw (ne_eqb (bars_of line) 64 (over.other e))

-- no bar stands behind the line
place_within : (n : ℕ) (s : List ℕ) (k : ℕ) → get_or (bar_places n s) k 0 ≤ n + length s
place_within n [] k = omega arith
place_within n (b ∷ s) zero = by_test (is_bar b) (λ t. rw t (omega arith)) (λ t. rw t (omega (arith, place_within (suc n) s zero)))
place_within n (b ∷ s) (suc k) = by_test (is_bar b) (λ t. rw t (omega (arith, place_within (suc n) s k))) (λ t. rw t (omega (arith, place_within (suc n) s (suc k))))

-- the tables, of which the first k cells' ends and the starts behind them are there
pub record Copied (places starts ends : List ℕ) (k : ℕ) : Type 0 where
  pub upto : k ≤ 64
  pub long : (length starts ≡ 65) × (length ends ≡ 65)
  pub closed : take k ends ≡ take k places
  pub opened : take (k + 1) starts ≡ 0 ∷ map suc (take k places)

pub copied_none : (places : List ℕ) → Copied places (replicate 65 0) (replicate 65 0) 0
copied_none places = record { upto = omega arith; long = (refl, refl); closed = refl; opened = refl }

module _ {line places : List ℕ} (met : Met line places 64 (length line)) where
  places_are : take 64 places ≡ bar_places 0 line
  places_are = rw (drop-length line, append-nil) at met.first

  pub place_small : (k : ℕ) → k < 64 → get_or places k 0 ≤ length line
  place_small k h = rw (← get_or-take 64 places k 0 h, places_are) (omega (arith, place_within 0 line k))

  pub copied_on : {starts ends : List ℕ} {k : ℕ} → Copied places starts ends k → k < 64
      → Copied places (set starts (k + 1) (get_or places k 0 + 1)) (set ends k (get_or places k 0)) (k + 1)
  copied_on {starts} {ends} {k} so_far h =
      let e : take (k + 1) places ≡ take k places ++ (get_or places k 0 ∷ []) = rw (add-one k) (take-suc places k 0 (omega (arith, met.wide))) in
      record {
        upto = omega arith;
        long = (length-set starts (k + 1) (get_or places k 0 + 1) ∙ so_far.long.0, length-set ends k (get_or places k 0) ∙ so_far.long.1);
        closed = push ends k (get_or places k 0) (omega arith) ∙ rw (so_far.closed, e);
        opened = push starts (k + 1) (get_or places k 0 + 1) (omega arith) ∙ rw (so_far.opened, e, map_end (take k places) (get_or places k 0), add-one (get_or places k 0));
      }

  module _ {starts ends : List ℕ} {k : ℕ} (so_far : Copied places starts ends k) (h : 64 ≤ k) where
    last : k ≡ 64
    last = omega (arith, so_far.upto)

    starts_whole : starts ≡ starts_of line
    unfolding starts_of
    starts_whole = sym (take_all 65 starts (omega arith)) ∙ (rw last at so_far.opened) ∙ ap (λ (l : List ℕ). 0 ∷ map suc l) places_are

    ends_whole : set ends 64 (length line) ≡ ends_of line
    unfolding ends_of
    ends_whole =
        sym (take_all 65 (set ends 64 (length line)) (rw length-set (omega arith)))
        ∙ push ends 64 (length line) (omega arith)
        ∙ ap (λ (l : List ℕ). l ++ (length line ∷ [])) ((rw last at so_far.closed) ∙ places_are)

    count_is : bars_of line ≡ 64
    count_is = omega (arith, met.count, ap bars_of (drop-length line))

    pub copied_all : Tabled line starts (set ends 64 (length line))
    copied_all = record { count = count_is; starts_are = starts_whole; ends_are = ends_whole }
