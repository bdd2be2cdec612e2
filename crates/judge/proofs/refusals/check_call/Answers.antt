use mathlib.Core.Path.{◌≡◌, ◌∙◌, refl, sym, ap}
use mathlib.Core.Bool.{Bool, true, not}
use mathlib.Core.List.{List, [], ◌∷◌}
use Prim.Native.Nat.{ℕ}
use borrow.Author.Tests.{eq-eqb, ne_eqb, lt-ltb, le-ltb}
use native.Mathlib.Omega.{arith}
use Rattle.text.specs.FirstFrom.{first_from}
use Rattle.text.proofs.FirstFrom.{hit, skip}
use Rattle.register.proofs.WidthLaws.{told_unframed}
use Rattle.judge.proofs.refusals.check_call.Goals as goal

-- all five lists are framed
past : {a b c d e : Bool} (tests : List Bool) {m : ℕ} → a ≡ true → b ≡ true → c ≡ true → d ≡ true → e ≡ true
    → m ≡ first_from 6 tests → m ≡ first_from 1 (not a ∷ not b ∷ not c ∷ not d ∷ not e ∷ tests)
unfolding first_from
past tests p q r s t rest = rw (p, q, r, s, t) rest

none : (n : ℕ) → 0 ≡ first_from n []
unfolding first_from
none n = refl

pub returns-then-width-eq0 : goal.returns-then-width-eq0
returns-then-width-eq0 c = λ register told.
    past _ (sym c.framed.ensures ∙ c.if-not-framed.false) (sym c.framed-2.ensures ∙ c.if-not-framed-2.false) (sym c.framed-3.ensures ∙ c.if-not-framed-3.false)
    (sym c.framed-4.ensures ∙ c.if-not-framed-4.false) (sym c.framed-5.ensures ∙ c.if-not-framed-5.false)
    (hit 6 _ (sym (told_unframed register told) ∙ eq-eqb _ _ c.if-width-eq0.true))

pub returns-then-not-is_moment : goal.returns-then-not-is_moment
returns-then-not-is_moment c = λ register told.
    past _ (sym c.framed.ensures ∙ c.if-not-framed.false) (sym c.framed-2.ensures ∙ c.if-not-framed-2.false) (sym c.framed-3.ensures ∙ c.if-not-framed-3.false)
    (sym c.framed-4.ensures ∙ c.if-not-framed-4.false) (sym c.framed-5.ensures ∙ c.if-not-framed-5.false)
    (skip 6 _ (sym (told_unframed register told) ∙ ne_eqb _ _ c.if-width-eq0.false)
    (hit 7 _ (ap not (sym c.is_moment.ensures ∙ c.if-not-is_moment.true))))

pub returns-then-room-entries_needed : goal.returns-then-room-entries_needed
returns-then-room-entries_needed c = λ register told.
    past _ (sym c.framed.ensures ∙ c.if-not-framed.false) (sym c.framed-2.ensures ∙ c.if-not-framed-2.false) (sym c.framed-3.ensures ∙ c.if-not-framed-3.false)
    (sym c.framed-4.ensures ∙ c.if-not-framed-4.false) (sym c.framed-5.ensures ∙ c.if-not-framed-5.false)
    (skip 6 _ (sym (told_unframed register told) ∙ ne_eqb _ _ c.if-width-eq0.false)
    (skip 7 _ (ap not (sym c.is_moment.ensures ∙ c.if-not-is_moment.false))
    (hit 8 _ (lt-ltb _ _ (omega (arith, c.entries_needed.ensures))))))

pub returns-then-line-gt-LONGEST_LINE : goal.returns-then-line-gt-LONGEST_LINE
returns-then-line-gt-LONGEST_LINE c = λ register told.
    past _ (sym c.framed.ensures ∙ c.if-not-framed.false) (sym c.framed-2.ensures ∙ c.if-not-framed-2.false) (sym c.framed-3.ensures ∙ c.if-not-framed-3.false)
    (sym c.framed-4.ensures ∙ c.if-not-framed-4.false) (sym c.framed-5.ensures ∙ c.if-not-framed-5.false)
    (skip 6 _ (sym (told_unframed register told) ∙ ne_eqb _ _ c.if-width-eq0.false)
    (skip 7 _ (ap not (sym c.is_moment.ensures ∙ c.if-not-is_moment.false))
    (skip 8 _ (le-ltb _ _ (omega (arith, c.entries_needed.ensures)))
    (hit 9 _ (lt-ltb _ _ c.if-line-gt-LONGEST_LINE.true)))))

pub returns : goal.returns
returns c = λ register told.
    past _ (sym c.framed.ensures ∙ c.if-not-framed.false) (sym c.framed-2.ensures ∙ c.if-not-framed-2.false) (sym c.framed-3.ensures ∙ c.if-not-framed-3.false)
    (sym c.framed-4.ensures ∙ c.if-not-framed-4.false) (sym c.framed-5.ensures ∙ c.if-not-framed-5.false)
    (skip 6 _ (sym (told_unframed register told) ∙ ne_eqb _ _ c.if-width-eq0.false)
    (skip 7 _ (ap not (sym c.is_moment.ensures ∙ c.if-not-is_moment.false))
    (skip 8 _ (le-ltb _ _ (omega (arith, c.entries_needed.ensures)))
    (skip 9 [] (le-ltb _ _ c.if-line-gt-LONGEST_LINE.false) (none 10)))))
