-- A call that does not ask for Polish identifiers: its outcome is by 138 codes, and nothing of it depends on what those rules say.
use mathlib.Core.Path.{◌≡◌, ◌∙◌, refl, ap}
use mathlib.Core.Bool.{Bool, false, cond, ◌&&◌}
use mathlib.Core.List.{List, [], ◌∷◌, ◌++◌, append-nil}
use Prim.Native.Nat.{ℕ}
use lib.Dec.{eqb, ltb}
use lib.ListN.{length, take}
use Rattle.text.specs.FirstFrom.{first_from}
use Rattle.forms.specs.Findings.{form_findings}
use Rattle.register.specs.Frame.{full}
use Rattle.facts.specs.Call.{Call, call}
use Rattle.facts.specs.Words.{is_absent}
use Rattle.facts.specs.Rules.{is_new, standing_of, flags, all_flags}
use Rattle.verdict.specs.Codes.{rule_codes, form_codes, polish_codes, codes, base_count, entries_needed}
use Rattle.verdict.specs.Verdict.{word_of, words, pick, codes_found, verdict_of}
use Rattle.verdict.proofs.WordLaws.{pick_append}
use Rattle.judge.specs.Refusal.{clean, early, not_whole, no_room, refusal}
use Rattle.judge.specs.Outcome.{Outcome, written, refused_outcome, outcome}
use Rattle.judge.proofs.FlagLaws.{none_polish}

-- the outcome of a call of whose line these codes are found, by these words, where so many entries are needed
abbrev outcome_by : List ℕ → List ℕ → ℕ → Call → ℕ → Outcome
outcome_by found bits needed c room =
    let none = eqb (length found) 0 in
    let number = first_from 1 (take 7 (early c room) ++ (ltb room needed ∷ ltb 4096 (length c.line) ∷ not_whole c ∷ (none && (is_new c.line && (is_absent (standing_of c) && full c.register))) ∷ [])) in
    cond (eqb number 0)
    (record {
      verdict = record { answer = 0; count = length found; words = bits };
      listed = found;
      register = cond none (written c) c.register;
    })
    (refused_outcome c number)

-- the flags of the rules and the forms, which are the same whether the call asks or not
abbrev pub base_flags : Call → List Bool
base_flags c = flags c ++ form_findings c.line

pub same_base : (line lei cty ccy ven ins register : List ℕ) (day micro : ℕ) (polish other : Bool)
    → base_flags (call line lei cty ccy ven ins register day micro polish) ≡ base_flags (call line lei cty ccy ven ins register day micro other)
unfolding flags
same_base line lei cty ccy ven ins register day micro polish other = refl

module _ (c : Call) (off : c.polish ≡ false) where
  base_only : all_flags c ≡ base_flags c ++ (false ∷ false ∷ false ∷ [])
  unfolding all_flags flags
  base_only = ap (λ (three : List Bool). flags c ++ (form_findings c.line ++ three)) (none_polish c off)

  pub base_found : codes_found (all_flags c) ≡ pick (rule_codes ++ form_codes) (base_flags c)
  unfolding codes rule_codes form_codes polish_codes pick flags form_findings
  base_found = ap codes_found base_only ∙ pick_append codes (base_flags c) (false ∷ false ∷ false ∷ []) ∙ append-nil (pick (rule_codes ++ form_codes) (base_flags c))

  pub base_words : words 3 (all_flags c) ≡ words 3 (base_flags c)
  unfolding word_of flags form_findings
  base_words = ap (words 3) base_only

  pub unasked : (room : ℕ) → outcome c room ≡ outcome_by (pick (rule_codes ++ form_codes) (base_flags c)) (words 3 (base_flags c)) base_count c room
  unfolding outcome refusal no_room clean verdict_of
  unasked room = λ i. outcome_by (base_found i) (base_words i) (entries_needed (off i)) c room
