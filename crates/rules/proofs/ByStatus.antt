-- What the rules come to for a line whose status is known.
use mathlib.Core.Path.{◌≡◌, ◌∙◌, refl, sym}
use mathlib.Core.Bool.{Bool, true, false, not, ◌&&◌, ◌||◌}
use mathlib.Core.List.{List, [], ◌∷◌, ◌++◌, map}
use Prim.Native.Nat.{ℕ}
use lib.ListN.{replicate, set, take}
use Rattle.cells.specs.Cells.{cell}
use Rattle.forms.specs.Findings.{form_findings}
use Rattle.forms.proofs.StatusLaws.{not_both}
use Rattle.facts.specs.Call.{Call}
use Rattle.facts.specs.Words.{is_absent, is_cancelled, lei_good}
use Rattle.facts.specs.Facts.{polish_facts}
use Rattle.polish.specs.Cells.{form_wrong, check_wrong, born_wrong}
use Rattle.polish.specs.declared.cells.Polish.{Polish}
use Rattle.facts.specs.Rules.{When, OnNew, OnCxl, OnBoth, Rule, is_new, is_cxl, judged, good, and_good, given, at, standing_of, rules, flags, some_cell, some_dated, polish_rules, polish_flags, all_flags}
use Rattle.verdict.specs.Codes.{rule_count, base_count, code_count}
use Rattle.verdict.specs.Findings.{put}

-- whether a rule is judged for a line that is NEW or not, and CXL or not
abbrev pub asked : Bool → Bool → When → Bool
asked new cxl OnNew = new
asked new cxl OnCxl = cxl
asked new cxl OnBoth = new || cxl

abbrev pub given_to : Bool → Bool → Call → Rule → Bool
given_to new cxl c r = and_good c.line (asked new cxl r.status) r.reads && r.violated_by c

judged_is : (line : List ℕ) (status : When) → judged line status ≡ asked (is_new line) (is_cxl line) status
judged_is line OnNew = refl
judged_is line OnCxl = refl
judged_is line OnBoth = refl

module _ (c : Call) {new cxl : Bool} (n : is_new c.line ≡ new) (x : is_cxl c.line ≡ cxl) where
  with_status : (rs : List Rule) → map (given c) rs ≡ map (given_to new cxl c) rs
  with_status [] = refl
  with_status (r ∷ rs) =
      λ i. (and_good c.line ((judged_is c.line r.status ∙ (λ j. asked (n j) (x j) r.status)) i) r.reads && r.violated_by c)
      ∷ with_status rs i

pub when_new : (c : Call) → is_new c.line ≡ true → (rs : List Rule) → map (given_to true false c) rs ≡ map (given c) rs
when_new c n rs = sym (with_status c n (not_both (cell c.line 1) n) rs)

-- of a line that is not NEW only 024, 025 and 060 are judged, and they if it is CXL
pub not_new : (c : Call) → is_new c.line ≡ false
    → take rule_count (set (set (set (replicate code_count false)
    1 (is_cxl c.line && good c.line 4 && good c.line 2 && is_absent (standing_of c)))
    2 (is_cxl c.line && good c.line 4 && good c.line 2 && is_cancelled (standing_of c)))
    6 (is_cxl c.line && good c.line 6 && not (lei_good c.lei (at c 6) c.day)))
    ≡ flags c
unfolding flags
not_new c n = sym (with_status c n refl rules)

-- nor are the rules for Polish identifiers
pub not_polish : (c : Call) → is_new c.line ≡ false → false ∷ false ∷ false ∷ [] ≡ polish_flags c
unfolding polish_flags
not_polish c n = sym (with_status c n refl polish_rules)

-- of a line that is NEW they are its facts, where the call asks for them, and else none
abbrev pub three : Polish → List Bool
three p = p.form ∷ p.check ∷ p.birth ∷ []

module _ (c : Call) (new : is_new c.line ≡ true) where
  pub polish_asked : c.polish ≡ true → three (polish_facts c.line) ≡ polish_flags c
  unfolding polish_flags polish_facts
  polish_asked on =
      (λ i. (sym on i && some_cell form_wrong c.line) ∷ (sym on i && some_cell check_wrong c.line) ∷ (sym on i && some_dated born_wrong c.line) ∷ [])
      ∙ when_new c new polish_rules

  pub polish_unasked : c.polish ≡ false → false ∷ false ∷ false ∷ [] ≡ polish_flags c
  unfolding polish_flags
  polish_unasked off =
      (λ i. (sym off i && some_cell form_wrong c.line) ∷ (sym off i && some_cell check_wrong c.line) ∷ (sym off i && some_dated born_wrong c.line) ∷ [])
      ∙ when_new c new polish_rules

-- put behind the rules and the forms they make all flags
pub polish_put : (c : Call) → put (flags c ++ (form_findings c.line ++ (false ∷ false ∷ false ∷ []))) base_count (polish_flags c) ≡ all_flags c
unfolding put flags form_findings polish_flags all_flags
polish_put c = refl
