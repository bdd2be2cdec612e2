-- The rules of a letter's group find of a CFI that begins with it what all rules find.
use mathlib.Core.Path.{◌≡◌, ◌∙◌, refl, sym, ap}
use mathlib.Core.Bool.{Bool, true, false, ◌&&◌, ◌||◌, and-false, true≢false}
use mathlib.Core.List.{List, [], ◌∷◌}
use Prim.Native.Nat.{ℕ}
use borrow.Author.Tests.{ne_eqb, eqb-true, eqb-false}
use lib.Dec.{eqb}
use lib.ListN.{get_or}
use Rattle.text.specs.Ascii.{ascii}
use Rattle.text.specs.Shape.{suits, shape}
use Rattle.text.proofs.Bools.{by_test, and_left, and_right}
use Rattle.cfi.specs.Rules.{Rule, rules, words, wrong, any, matches, broken}
use Rattle.cfi.specs.Table.{beginning, kept, group}

-- the letters that a pattern begins with
abbrev pub firsts : List ℕ
firsts = ascii "CDEFHIJLORS"

abbrev pub among : ℕ → List ℕ → Bool
among x [] = false
among x (y ∷ ys) = eqb x y || among x ys

unfoldable pub begun : List (List ℕ) → Bool
begun [] = true
begun (pattern ∷ patterns) = among (get_or pattern 0 0) firsts && begun patterns

unfoldable pub all_begun : List Rule → Bool
all_begun [] = true
all_begun (r ∷ rs) = begun r.patterns && all_begun rs

pub rules_begun : all_begun rules ≡ true
unfolding all_begun begun rules words
rules_begun = refl

-- such a letter stands for itself
abbrev pub Each : (ℕ → Type 0) → List ℕ → Type 0
Each P [] = Unit {0}
Each P (y ∷ ys) = P y × Each P ys

one_of : (P : ℕ → Type 0) (x : ℕ) (ys : List ℕ) → Each P ys → among x ys ≡ true → P x
one_of P x [] ps e = absurd (true≢false (sym e))
one_of P x (y ∷ ys) ps e =
    by_test (eqb x y) (λ t. rw (eqb-true x y t) ps.0) (λ t. one_of P x ys ps.1 (rw t at e))

pub none_of : (x : ℕ) (ys : List ℕ) → Each (λ y. x ≡ y → ⊥) ys → among x ys ≡ false
none_of x [] ps = refl
none_of x (y ∷ ys) ps = rw (ne_eqb x y ps.0) (none_of x ys ps.1)

itself : (x b : ℕ) → among x firsts ≡ true → suits x b ≡ eqb b x
unfolding suits
itself x b e = one_of (λ y. suits y b ≡ eqb b y) x firsts (refl, (refl, (refl, (refl, (refl, (refl, (refl, (refl, (refl, (refl, (refl, tt))))))))))) e

module _ (x : ℕ) (s : List ℕ) where
  -- a pattern that begins with another letter does not match
  no_match : (pattern : List ℕ) → among (get_or pattern 0 0) firsts ≡ true → eqb (get_or pattern 0 0) x ≡ false → shape pattern (x ∷ s) ≡ false
  unfolding shape
  no_match [] e h = refl
  no_match (letter ∷ pattern) e h = rw (itself letter x e, ne_eqb x letter (λ q. eqb-false letter x h (sym q)))

  same_matches : (ps : List (List ℕ)) → begun ps ≡ true → matches (beginning x ps) (x ∷ s) ≡ matches ps (x ∷ s)
  unfolding matches any beginning begun
  same_matches [] e = refl
  same_matches (p ∷ ps) e =
      let here = and_left (among (get_or p 0 0) firsts) (begun ps) e in
      let on = same_matches ps (and_right (among (get_or p 0 0) firsts) (begun ps) e) in
      by_test (eqb (get_or p 0 0) x) (λ t. rw t (ap (λ (b : Bool). shape p (x ∷ s) || b) on)) (λ t. rw (t, no_match p here t) on)

  module _ (kinds : List ℕ) (k : ℕ) where
    abbrev finds : Rule → Bool
    finds r = eqb r.code k && broken kinds (x ∷ s) r

    kept_finds : (ps : List (List ℕ)) (r : Rule) (rs : List Rule) → matches ps (x ∷ s) ≡ matches r.patterns (x ∷ s)
        → any finds (kept ps r rs) ≡ (finds r || any finds rs)
    unfolding any broken matches
    kept_finds [] r rs e =
        rw (← e, and-false (wrong r.fault (get_or kinds 30 0) (get_or kinds r.cell 0)), and-false (eqb r.code k))
    kept_finds (p ∷ ps) r rs e = λ i. (eqb r.code k && (wrong r.fault (get_or kinds 30 0) (get_or kinds r.cell 0) && e i)) || any finds rs

    pub group_finds : (rs : List Rule) → all_begun rs ≡ true → any finds (group x rs) ≡ any finds rs
    unfolding any group all_begun
    group_finds [] e = refl
    group_finds (r ∷ rs) e =
        let here = and_left (begun r.patterns) (all_begun rs) e in
        let on = and_right (begun r.patterns) (all_begun rs) e in
        kept_finds (beginning x r.patterns) r (group x rs) (same_matches r.patterns here)
        ∙ ap (λ (b : Bool). finds r || b) (group_finds rs on)

-- a letter that no pattern begins with has no group
module _ (x : ℕ) (other : among x firsts ≡ false) where
  none_beginning : (ps : List (List ℕ)) → begun ps ≡ true → beginning x ps ≡ []
  unfolding beginning begun
  none_beginning [] e = refl
  none_beginning (p ∷ ps) e =
      let here = and_left (among (get_or p 0 0) firsts) (begun ps) e in
      by_test (eqb (get_or p 0 0) x)
      (λ t. absurd (true≢false (sym here ∙ rw (eqb-true (get_or p 0 0) x t) other)))
      (λ t. rw t (none_beginning ps (and_right (among (get_or p 0 0) firsts) (begun ps) e)))

  pub no_group : (rs : List Rule) → all_begun rs ≡ true → group x rs ≡ []
  unfolding group all_begun
  no_group [] e = refl
  no_group (r ∷ rs) e =
      rw (none_beginning r.patterns (and_left (begun r.patterns) (all_begun rs) e)) (no_group rs (and_right (begun r.patterns) (all_begun rs) e))
