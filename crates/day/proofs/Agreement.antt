-- What is noted of a judged line is what the history says of it.
use mathlib.Core.Path.{◌≡◌, refl, sym, ap, ◌∙◌}
use mathlib.Core.Bool.{Bool, true, false, cond, not, ◌&&◌, ◌||◌, true≢false}
use mathlib.Core.List.{List, [], ◌∷◌}
use Prim.Native.Nat.{ℕ, zero, suc, ◌<◌}
use native.Mathlib.Omega.{arith}
use borrow.Author.Tests.{eq-eqb, ne_eqb, eqb-true, not-true}
use lib.Dec.{eqb}
use lib.ListN.{length, get_or}
use Rattle.text.specs.Ascii.{ascii}
use Rattle.text.specs.Shape.{suits, shape}
use Rattle.text.specs.Word.{same}
use Rattle.text.proofs.Bools.{by_test, and_left, or_left, or_right}
use Rattle.cells.specs.Cells.{cell}
use Rattle.ident.specs.Codes.{lei_shaped}
use Rattle.forms.specs.Forms.{status_word}
use Rattle.forms.specs.Findings.{status_of}
use Rattle.forms.specs.declared.findings.Status.TheVariants.{New, Cancellation}
use Rattle.register.proofs.Words.{same_true}
use Rattle.facts.specs.Call.{Call}
use Rattle.facts.specs.Rules.{is_new, is_cxl, all_flags}
use Rattle.verdict.specs.declared.Verdict.{Verdict}
use Rattle.verdict.specs.Codes.{rule_codes, form_codes, polish_codes, codes}
use Rattle.verdict.specs.Verdict.{bit, pick, codes_found, verdict_of, refused_by}
use Rattle.verdict.specs.Counted.{times}
use Rattle.verdict.specs.Bits.{bits_of, flags_in}
use Rattle.verdict.proofs.OrderLaws.{pick_once}
use Rattle.verdict.proofs.Promises.{code_count_lem, codes_rise}
use Rattle.verdict.proofs.WordLaws.{words_flags}
use Rattle.judge.specs.Refusal.{clean, no_room}
use Rattle.judge.specs.Outcome.{Outcome, outcome, refused_outcome, judged_outcome, Judged}
use Rattle.conditions.specs.Condition2.{listed, malformed}
use Rattle.conditions.proofs.LineLaws.{Known, status_found, lei_length, entity_shaped, good_4, clean_known, clean_4, clean_cxl}
use Rattle.conditions.proofs.FoundLaws.{form_once, says_found, count_found, listed_found}
use Rattle.conditions.proofs.CallLaws.{Way, refused, stuck, heard, way}
use Rattle.summary.specs.declared.Kind.TheVariants.{New as NewLine, Cancelled, Found, Full, Refused}
use Rattle.summary.specs.Counting.{heading, blank}
use Rattle.summary.specs.Judged.{no_entity, entity_in, names, kind_of, of_no_entity, line_of}
use Rattle.summary.proofs.NameLaws.{bit_once}
use Rattle.day.specs.Summary.{Handed, found, refused_before11, handed}
use Rattle.day.proofs.Numbers.{noted}
use Rattle.day.proofs.Same.{Agree}

each : (f g : ℕ → Bool) → f 0 ≡ g 0 → f 1 ≡ g 1 → f 2 ≡ g 2 → f 3 ≡ g 3 → f 4 ≡ g 4 → (n : ℕ) → n < 5 → f n ≡ g n
each f g a b c d e zero h = a
each f g a b c d e (suc zero) h = b
each f g a b c d e (suc (suc zero)) h = c
each f g a b c d e (suc (suc (suc zero))) h = d
each f g a b c d e (suc (suc (suc (suc zero)))) h = e
each f g a b c d e (suc (suc (suc (suc (suc n))))) h = absurd (omega arith)

-- the five headings, by whether the answer is 11 or 0, n is 0, and cell 1 is NEW or CXL
abbrev kind_under : Bool → Bool → Bool → Bool → ℕ → Bool
kind_under eleven judged none new n = eqb (heading (cond eleven Full (cond (not judged) Refused (cond (not none) Found (cond new NewLine Cancelled))))) n

abbrev head_under : Bool → Bool → Bool → Bool → Bool → ℕ → Bool
head_under eleven judged none new cxl n =
    get_or (((judged && none) && new) ∷ ((judged && none) && cxl) ∷ (judged && not none) ∷ eleven ∷ (not judged && not eleven) ∷ []) n false

heads : (eleven judged none new cxl : Bool) → (eleven ≡ true → judged ≡ false) → (new ≡ true → cxl ≡ false) → (judged ≡ true → none ≡ true → new ≡ false → cxl ≡ true)
    → (n : ℕ) → n < 5 → kind_under eleven judged none new n ≡ head_under eleven judged none new cxl n
heads true true none new cxl one_answer not_both or-cxl = absurd (true≢false (one_answer refl))
heads true false none new cxl one_answer not_both or-cxl = each (kind_under true false none new) (head_under true false none new cxl) refl refl refl refl refl
heads false false none new cxl one_answer not_both or-cxl = each (kind_under false false none new) (head_under false false none new cxl) refl refl refl refl refl
heads false true false new cxl one_answer not_both or-cxl = each (kind_under false true false new) (head_under false true false new cxl) refl refl refl refl refl
heads false true true true cxl one_answer not_both or-cxl = each (kind_under false true true true) (head_under false true true true cxl) refl (sym (not_both refl)) refl refl refl
heads false true true false cxl one_answer not_both or-cxl = each (kind_under false true true false) (head_under false true true false cxl) refl (sym (or-cxl refl refl refl)) refl refl refl

-- no line is both NEW and CXL
not_both_words : (line : List ℕ) → is_new line ≡ true → is_cxl line ≡ false
unfolding same
not_both_words line t = ap (same (status_word Cancellation)) (same_true (status_word New) (cell line 1) t)

-- a LEI begins with a letter or a digit
lei_begins : (s : List ℕ) → lei_shaped s ≡ true → blank s ≡ false
unfolding shape suits
lei_begins [] e = absurd (true≢false (sym e))
lei_begins (b ∷ s) e =
    by_test (eqb b 0)
    (λ t. absurd (true≢false (sym (and_left (suits 110 b) (shape (ascii "nnnnnnnnnnnnnnnnndd") s) e) ∙ ap (suits 110) (eqb-true b 0 t))))
    (λ t. t)

-- zero words name nothing
nothing_named : codes_found (flags_in (0 ∷ 0 ∷ 0 ∷ [])) ≡ []
unfolding flags_in bits_of pick codes rule_codes form_codes polish_codes
nothing_named = refl

early : (answer : ℕ) → (answer ≡ 0 → ⊥) → (answer ≡ 11 → ⊥) → (not (eqb answer 0) && not (eqb answer 11)) ≡ true
early answer some other = rw (ne_eqb answer 0 some, ne_eqb answer 11 other)

module _ (call : Call) {before findings left : List ℕ} {verdict : Verdict} (j : Judged (outcome call (length before)) before verdict findings left) where
  abbrev h : Handed
  h = record { line = call.line; verdict = verdict; findings = listed verdict findings }

  no_room_clean : no_room call ≡ true → clean call ≡ true
  unfolding no_room
  no_room_clean n = and_left (clean call) _ n

  none_clean : length (codes_found (all_flags call)) ≡ 0 → clean call ≡ true
  unfolding clean
  none_clean e = eq-eqb _ _ e

  module _ (m : ℕ) (o : outcome call (length before) ≡ refused_outcome call m) where
    says_refused : verdict ≡ refused_by m
    says_refused = j.says ∙ ap (λ (x : Outcome). x.verdict) o

    pub answer_refused : verdict.answer ≡ m
    unfolding refused_by
    answer_refused = ap (λ (v : Verdict). v.answer) says_refused

    listed_refused : listed verdict findings ≡ codes_found (flags_in verdict.words)
    unfolding refused_by
    listed_refused = ap (λ (v : Verdict). listed v findings) says_refused ∙ sym nothing_named ∙ ap (λ (v : Verdict). codes_found (flags_in v.words)) (sym says_refused)

  listed_judged : outcome call (length before) ≡ judged_outcome call → listed verdict findings ≡ codes_found (flags_in verdict.words)
  unfolding verdict_of
  listed_judged o =
      listed_found call j o ∙ sym (words_flags 3 codes (all_flags call) (omega (arith, code_count_lem)))
      ∙ ap (λ (v : Verdict). codes_found (flags_in v.words)) (sym (says_found call j o))

  -- the findings are the codes that the words name
  listed_named : Way call (length before) → listed verdict findings ≡ codes_found (flags_in verdict.words)
  listed_named (refused m some other r o) = listed_refused m o
  listed_named (stuck r n o) = listed_refused 11 o
  listed_named (heard r n o) = listed_judged o

  named : listed verdict findings ≡ codes_found (flags_in verdict.words)
  named = listed_named (way call (length before))

  found_is : (code : ℕ) → names verdict.words code ≡ found h code
  unfolding names
  found_is code = ap (λ (l : List ℕ). eqb (times code l) 1) (sym named)

  no_entity_is : of_no_entity verdict.answer verdict.words ≡ handed.nobody h
  unfolding of_no_entity
  no_entity_is = λ i. refused_before11 h || found_is 1001 i || found_is 1004 i

  -- without 1001 and 1004 cell 4 is a LEI
  form_silent : (f : ℕ) (b : Bool) → times f (codes_found (all_flags call)) ≡ bit b → outcome call (length before) ≡ judged_outcome call → found h f ≡ false → b ≡ false
  form_silent f b once o e = sym (bit_once b) ∙ ap (λ (n : ℕ). eqb n 1) (sym once ∙ ap (times f) (sym (listed_found call j o))) ∙ e

  shaped_by : Way call (length before) → handed.nobody h ≡ false → lei_shaped (cell call.line 4) ≡ true
  shaped_by (refused m some other r o) e =
      absurd (true≢false (sym (early verdict.answer (λ z. some (sym (answer_refused m o) ∙ z)) (λ z. other (sym (answer_refused m o) ∙ z))) ∙ or_left (refused_before11 h) (found h 1001) (or_left (refused_before11 h || found h 1001) (found h 1004) e)))
  shaped_by (stuck r n o) e = let clear : clean call ≡ true = no_room_clean n in entity_shaped call.line (clean_known call clear) (not-true _ (sym (good_4 call.line) ∙ clean_4 call clear))
  shaped_by (heard r n o) e =
      let no-1001 : found h 1001 ≡ false = or_right (refused_before11 h) (found h 1001) (or_left (refused_before11 h || found h 1001) (found h 1004) e) in
      let no-1004 : found h 1004 ≡ false = or_right (refused_before11 h || found h 1001) (found h 1004) e in
      let known : Known (status_of (cell call.line 1)) =
      status_found (status_of (cell call.line 1)) (cell call.line 47) (cell call.line 1)
      (form_silent 1001 (malformed call 1) (form_once call 1 (omega arith) (omega arith)) o no-1001)
      in
      entity_shaped call.line known (form_silent 1004 (malformed call 4) (form_once call 4 (omega arith) (omega arith)) o no-1004)

  shaped : handed.nobody h ≡ false → lei_shaped (cell call.line 4) ≡ true
  shaped = shaped_by (way call (length before))

  -- an accepted line is NEW or CXL
  accepted_cxl : Way call (length before) → eqb verdict.answer 0 ≡ true → eqb verdict.count 0 ≡ true → is_new call.line ≡ false → is_cxl call.line ≡ true
  accepted_cxl (refused m some other r o) a c w = absurd (some (sym (answer_refused m o) ∙ eqb-true verdict.answer 0 a))
  accepted_cxl (stuck r n o) a c w = let z : ◌≡◌ {A = ℕ} 11 0 = sym (answer_refused 11 o) ∙ eqb-true verdict.answer 0 a in absurd (omega arith)
  accepted_cxl (heard r n o) a c w = clean_cxl call (none_clean (sym (count_found call j o) ∙ eqb-true verdict.count 0 c)) w

  entity_of_lem : handed.nobody h ≡ false → entity_in call.line ≡ cell call.line 4
  unfolding entity_in
  entity_of_lem e = rw (eq-eqb (length (cell call.line 4)) 20 (lei_length (cell call.line 4) (shaped e)))

  line_entity : (b : Bool) → handed.nobody h ≡ b → (line_of call.line verdict).entity ≡ cond b no_entity (cell call.line 4)
  unfolding line_of
  line_entity true e = rw (no_entity_is ∙ e)
  line_entity false e = rw (no_entity_is ∙ e) (entity_of_lem e)

  pub agrees : Agree noted handed (line_of call.line verdict) h
  unfolding line_of kind_of
  agrees =
      record {
        nobody_is = by_test (handed.nobody h)
            (λ t. ap blank (line_entity true t) ∙ sym t)
            (λ t. ap blank (line_entity false t) ∙ lei_begins (cell call.line 4) (shaped t) ∙ sym t);
        entity_is = λ b. by_test (handed.nobody h)
            (λ t. absurd (true≢false (ap blank (sym (line_entity true t)) ∙ b)))
            (λ t. line_entity false t);
        under_is =
            heads (eqb verdict.answer 11) (eqb verdict.answer 0) (eqb verdict.count 0) (is_new call.line) (is_cxl call.line)
            (λ t. ne_eqb verdict.answer 0 (λ e. omega (arith, eqb-true verdict.answer 11 t))) (not_both_words call.line) (accepted_cxl (way call (length before)));
        has_is = λ k l.
            sym (bit_once (get_or (flags_in verdict.words) k false))
            ∙ ap (λ (n : ℕ). eqb n 1) (sym (pick_once 0 codes (flags_in verdict.words) k codes_rise (omega (arith, code_count_lem))))
            ∙ ap (λ (l : List ℕ). eqb (times (get_or codes k 0) l) 1) (sym named);
      }
