-- What lines of one sort count, and how one more changes it.
use mathlib.Core.Path.{◌≡◌, refl, sym, ap, ◌∙◌}
use mathlib.Core.Bool.{Bool, true, false, ◌&&◌, ◌||◌}
use mathlib.Core.List.{List, [], ◌∷◌}
use Prim.Native.Nat.{ℕ, zero, suc, ◌+◌, ◌≤◌, ◌<◌}
use native.Mathlib.Omega.{arith}
use native.Mathlib.Nat.{zero-add}
use borrow.Author.Tests.{lt-ltb}
use lib.ListN.{length, get_or}
use Rattle.verdict.specs.Codes.{code_count}
use Rattle.verdict.specs.Verdict.{bit}
use Rattle.verdict.specs.Bits.{flags_in}
use Rattle.verdict.proofs.BitLaws.{bit_small}
use Rattle.summary.specs.declared.Kind.{Kind}
use Rattle.summary.specs.declared.Kind.TheVariants.{New, Cancelled, Found, Full, Refused}
use Rattle.summary.specs.declared.Line.{Line}
use Rattle.summary.specs.Counting.{top, up, stuck, raised, any_stuck, stuck_in, under, added, blank, fresh}
use Rattle.day.specs.Counts.{Asked, count, codes_of, record_of, lines_in}

-- a line as it is noted
abbrev pub noted : Asked Line
noted = record { nobody = λ l. blank l.entity; entity = λ l. l.entity; under = under; has = λ j l. get_or (flags_in l.words) j false }

count_most : (such : Line → List Line → Bool) (h : List Line) → count such h ≤ length h
count_most such [] = omega arith
count_most such (l ∷ h) = omega (arith, bit_small (such l h), count_most such h)

up_count : (t : Bool) (n : ℕ) → n < top → up t n ≡ bit t + n
unfolding up
up_count true n h = rw (lt-ltb n top h) (omega arith)
up_count false n h = sym (zero-add n)

up_not : (n : ℕ) → up false n ≡ n
unfolding up
up_not n = refl

module _ (e : List ℕ) (such : Line → List Line → Bool) (l : Line) (h : List Line) where
  -- such a line is added
  module _ (t : such l h ≡ true) (fits : length h < top) where
    one_more : (p : Line → Bool) → up (p l) (count (λ x earlier. such x earlier && p x) h) ≡ count (λ x earlier. such x earlier && p x) (l ∷ h)
    one_more p =
        up_count (p l) (count (λ x earlier. such x earlier && p x) h) (omega (arith, count_most (λ x earlier. such x earlier && p x) h))
        ∙ ap (λ (b : Bool). bit (b && p l) + count (λ x earlier. such x earlier && p x) h) (sym t)

    codes_more : (flags : List Bool) (j k : ℕ) → ((i : ℕ) → get_or flags i false ≡ noted.has (j + i) l) → raised flags (codes_of noted such h j k) ≡ codes_of noted such (l ∷ h) j k
    unfolding raised
    codes_more [] j zero are = refl
    codes_more (flag ∷ flags) j zero are = refl
    codes_more [] j (suc k) are =
        let z : j + 0 ≡ j = omega arith in
        let n : ℕ = count (λ x earlier. such x earlier && noted.has j x) h in
        λ i. (sym (up_not n) ∙ ap (λ (b : Bool). up b n) (are 0 ∙ ap (λ (a : ℕ). noted.has a l) z) ∙ one_more (noted.has j)) i
        ∷ codes_more [] (suc j) k (λ a. let q : j + suc a ≡ suc j + a = omega arith in are (suc a) ∙ ap (λ (b : ℕ). noted.has b l) q) i
    codes_more (flag ∷ flags) j (suc k) are =
        let z : j + 0 ≡ j = omega arith in
        let n : ℕ = count (λ x earlier. such x earlier && noted.has j x) h in
        λ i. (ap (λ (b : Bool). up b n) (are 0 ∙ ap (λ (a : ℕ). noted.has a l) z) ∙ one_more (noted.has j)) i
        ∷ codes_more flags (suc j) k (λ a. let q : j + suc a ≡ suc j + a = omega arith in are (suc a) ∙ ap (λ (b : ℕ). noted.has b l) q) i

    pub such_added : added (record_of noted e such h) l ≡ record_of noted e such (l ∷ h)
    unfolding added record_of
    such_added = λ i. record {
      entity = e;
      accepted = one_more (under 0) i;
      cancelled = one_more (under 1) i;
      found = one_more (under 2) i;
      full = one_more (under 3) i;
      refused = one_more (under 4) i;
      codes = codes_more (flags_in l.words) 0 code_count (λ a. ap (λ (b : ℕ). noted.has b l) (sym (zero-add a))) i;
    }

  -- another changes nothing
  module _ (t : such l h ≡ false) where
    no_more : (p : Line → Bool) → count (λ x earlier. such x earlier && p x) (l ∷ h) ≡ count (λ x earlier. such x earlier && p x) h
    no_more p = ap (λ (b : Bool). bit (b && p l) + count (λ x earlier. such x earlier && p x) h) t ∙ zero-add (count (λ x earlier. such x earlier && p x) h)

    codes_same : (j k : ℕ) → codes_of noted such (l ∷ h) j k ≡ codes_of noted such h j k
    codes_same j zero = refl
    codes_same j (suc k) = λ i. no_more (noted.has j) i ∷ codes_same (suc j) k i

    pub other_kept : record_of noted e such (l ∷ h) ≡ record_of noted e such h
    unfolding record_of
    other_kept = λ i. record {
      entity = e;
      accepted = no_more (under 0) i;
      cancelled = no_more (under 1) i;
      found = no_more (under 2) i;
      full = no_more (under 3) i;
      refused = no_more (under 4) i;
      codes = codes_same 0 code_count i;
    }

-- no counter of so few lines is at its top
stuck_not : (t : Bool) (n : ℕ) → n < top → stuck t n ≡ false
unfolding stuck
stuck_not true n h = rw (lt-ltb n top h)
stuck_not false n h = refl

module _ (e : List ℕ) (such : Line → List Line → Bool) (l : Line) (h : List Line) (fits : length h < top) where
  below_top : (p : Line → Bool) → count (λ x earlier. such x earlier && p x) h < top
  below_top p = omega (arith, count_most (λ x earlier. such x earlier && p x) h)

  codes_below : (flags : List Bool) (j k : ℕ) → any_stuck flags (codes_of noted such h j k) ≡ false
  unfolding any_stuck
  codes_below [] j k = refl
  codes_below (flag ∷ flags) j zero = refl
  codes_below (flag ∷ flags) j (suc k) =
      rw (stuck_not flag (count (λ x earlier. such x earlier && noted.has j x) h) (below_top (noted.has j))) (codes_below flags (suc j) k)

  pub none_at_top : stuck_in (record_of noted e such h) l ≡ false
  unfolding stuck_in record_of
  none_at_top =
      λ i. stuck_not (under 0 l) _ (below_top (under 0)) i
      || stuck_not (under 1 l) _ (below_top (under 1)) i
      || stuck_not (under 2 l) _ (below_top (under 2)) i
      || stuck_not (under 3 l) _ (below_top (under 3)) i
      || stuck_not (under 4 l) _ (below_top (under 4)) i
      || codes_below (flags_in l.words) 0 code_count i

pub none_counted : (e : List ℕ) (such : Line → List Line → Bool) → record_of noted e such [] ≡ fresh e
unfolding record_of fresh
none_counted e such = refl

-- each line counts under one heading
one_heading : (t : Bool) (k : Kind) (l : Line) → l.kind ≡ k → bit (t && under 0 l) + bit (t && under 1 l) + bit (t && under 2 l) + bit (t && under 3 l) + bit (t && under 4 l) ≡ bit t
one_heading false k l e = refl
one_heading true New l e = rw e
one_heading true Cancelled l e = rw e
one_heading true Found l e = rw e
one_heading true Full l e = rw e
one_heading true Refused l e = rw e

pub lines_counted : (e : List ℕ) (such : Line → List Line → Bool) (h : List Line) → lines_in (record_of noted e such h) ≡ count such h
unfolding record_of
lines_counted e such [] = refl
lines_counted e such (l ∷ h) = omega (arith, one_heading (such l h) l.kind l refl, lines_counted e such h)

pub record_entity : (e : List ℕ) (such : Line → List Line → Bool) (h : List Line) → (record_of noted e such h).entity ≡ e
unfolding record_of
record_entity e such h = refl
