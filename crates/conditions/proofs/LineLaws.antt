-- What a line without form findings in cells 4 and 2 has there, and what a clean line is.
use mathlib.Core.Path.{◌≡◌, ◌∙◌, refl, sym, ap}
use mathlib.Core.Bool.{Bool, true, false, not, ◌&&◌, true≢false}
use mathlib.Core.Logic.{◌⊎◌, inl, inr, ⊎_elim}
use mathlib.Core.List.{List, [], ◌∷◌}
use Prim.Native.Nat.{ℕ, suc, ◌+◌, ◌≤◌, ◌<◌}
use native.Mathlib.Omega.{arith}
use borrow.Author.Tests.{not-true, not-false, leb-true, eqb-true}
use lib.Dec.{leb, lit<}
use lib.ListN.{length, get_or}
use Rattle.text.specs.Ascii.{ascii}
use Rattle.text.specs.Shape.{suits, shape}
use Rattle.text.specs.Class.{all_of}
use Rattle.text.specs.declared.classes.Class.TheVariants.{CapitalDigit}
use Rattle.text.proofs.Bools.{by_test, and_left, and_right, or_right}
use Rattle.cells.specs.Cells.{cell}
use Rattle.forms.specs.Forms.{holds, form_of}
use Rattle.text.specs.Word.{blank}
use Rattle.forms.specs.Findings.{status_of, found, form_finding, form_findings}
use Rattle.forms.specs.declared.findings.Status.{Status}
use Rattle.forms.specs.declared.findings.Status.TheVariants.{New, Cancellation, Neither}
use Rattle.forms.specs.declared.tables.Form.{Form}
use Rattle.forms.specs.declared.tables.Form.TheVariants.{Reference, Lei}
use Rattle.ident.specs.Codes.{lei_shaped}
use Rattle.register.proofs.PairLaws.{Shaped}
use Rattle.facts.specs.Call.{Call}
use Rattle.facts.specs.Rules.{is_new, is_cxl, good, good_cells, flags, all_flags}
use Rattle.verdict.specs.Codes.{codes, rule_count, code_count}
use Rattle.verdict.specs.Verdict.{bit, codes_found}
use Rattle.verdict.specs.Counted.{times}
use Rattle.verdict.proofs.OrderLaws.{pick_once}
use Rattle.verdict.proofs.Promises.{codes_rise, code_count_lem}
use Rattle.judge.specs.Refusal.{clean}

shape_length : (pattern s : List ℕ) → shape pattern s ≡ true → length s ≡ length pattern
unfolding shape
shape_length [] [] e = refl
shape_length [] (b ∷ s) e = absurd (true≢false (sym e))
shape_length (l ∷ pattern) [] e = absurd (true≢false (sym e))
shape_length (l ∷ pattern) (b ∷ s) e = ap suc (shape_length pattern s (and_right (suits l b) (shape pattern s) e))

pub lei_length : (s : List ℕ) → lei_shaped s ≡ true → length s ≡ 20
lei_length s e = shape_length (ascii "nnnnnnnnnnnnnnnnnndd") s e

-- the line is NEW or CXL
abbrev pub Known : Status → Type 0
Known status = (status ≡ New) ⊎ (status ≡ Cancellation)

pub new_known : (line : List ℕ) → is_new line ≡ true → Known (status_of (cell line 1))
unfolding status_of
new_known line t = inl (rw t)

pub cxl_known : (line : List ℕ) → is_cxl line ≡ true → Known (status_of (cell line 1))
unfolding status_of
cxl_known line t = by_test (is_new line) (λ e. inl (rw e)) (λ e. inr (rw (e, t)))

-- a cell that both kinds of line need, without a finding, has its form
form_holds : (status : Status) (first : Bool) (form : Form) (s : List ℕ) → Known status → found status first true true form s ≡ false → holds form s ≡ true
form_holds status first form s known e = ⊎_elim (λ k. as_new (rw k at e)) (λ k. as_cxl (rw k at e)) known
  where
    as_new : found New first true true form s ≡ false → holds form s ≡ true
    as_new f = by_test (blank s) (λ t. absurd (true≢false (rw t at f))) (λ t. not-false (holds form s) (rw t at f))

    as_cxl : found Cancellation first true true form s ≡ false → holds form s ≡ true
    as_cxl f = not-false (holds form s) (or_right (blank s) (not (holds form s)) f)

module _ (line : List ℕ) (known : Known (status_of (cell line 1))) where
  pub entity_shaped : form_finding (status_of (cell line 1)) (cell line 47) 4 (cell line 4) ≡ false → lei_shaped (cell line 4) ≡ true
  unfolding form_finding form_of holds
  entity_shaped e = form_holds (status_of (cell line 1)) false Lei (cell line 4) known e

  reference_length : form_finding (status_of (cell line 1)) (cell line 47) 2 (cell line 2) ≡ false → (1 ≤ length (cell line 2)) × (length (cell line 2) ≤ 52)
  unfolding form_finding form_of holds
  reference_length e =
      let s : List ℕ = cell line 2 in
      let h : holds Reference s ≡ true = form_holds (status_of (cell line 1)) false Reference s known e in
      let both : (leb 1 (length s) && leb (length s) 52) ≡ true = and_left (leb 1 (length s) && leb (length s) 52) (all_of CapitalDigit s) h in
      (leb-true _ _ (and_left (leb 1 (length s)) (leb (length s) 52) both), leb-true _ _ (and_right (leb 1 (length s)) (leb (length s) 52) both))

  pub pair_shaped :
      form_finding (status_of (cell line 1)) (cell line 47) 4 (cell line 4) ≡ false → form_finding (status_of (cell line 1)) (cell line 47) 2 (cell line 2) ≡ false
      → Shaped (cell line 4) (cell line 2)
  pair_shaped e f =
      let (least, most) = reference_length f in
      record { entity_length = lei_length (cell line 4) (entity_shaped e); some = least; most = most }

-- cells 4 and 2 of a NEW or CXL line are good exactly if they have no finding
pub good_4 : (line : List ℕ) → good line 4 ≡ not (form_finding (status_of (cell line 1)) (cell line 47) 4 (cell line 4))
unfolding good_cells form_findings
good_4 line = refl

pub good_2 : (line : List ℕ) → good line 2 ≡ not (form_finding (status_of (cell line 1)) (cell line 47) 2 (cell line 2))
unfolding good_cells form_findings
good_2 line = refl

pub good_shaped : (line : List ℕ) → Known (status_of (cell line 1)) → good line 4 ≡ true → good line 2 ≡ true → Shaped (cell line 4) (cell line 2)
good_shaped line known e f = pair_shaped line known (not-true _ (sym (good_4 line) ∙ e)) (not-true _ (sym (good_2 line) ∙ f))

-- a line without 1001 is NEW or CXL
pub status_found : (status : Status) (underlying s : List ℕ) → form_finding status underlying 1 s ≡ false → Known status
unfolding form_finding
status_found New underlying s e = inl refl
status_found Cancellation underlying s e = inr refl
status_found Neither underlying s e = absurd (true≢false e)

-- a clean line has no flag set
nothing : (l : List ℕ) → length l ≡ 0 → l ≡ []
nothing [] e = refl
nothing (x ∷ l) e = absurd (omega arith)

pub bit_none : (b : Bool) → bit b ≡ 0 → b ≡ false
bit_none false e = refl
bit_none true e = absurd (omega arith)

module _ (c : Call) (clear : clean c ≡ true) where
  pub none_found : codes_found (all_flags c) ≡ []
  unfolding clean
  none_found = nothing (codes_found (all_flags c)) (eqb-true _ _ clear)

  pub no_flag : (i : ℕ) → i < code_count → get_or (all_flags c) i false ≡ false
  unfolding times
  no_flag i h =
      bit_none (get_or (all_flags c) i false)
      (sym (pick_once 0 codes (all_flags c) i codes_rise (omega (arith, code_count_lem))) ∙ ap (times (get_or codes i 0)) none_found)

  -- it is NEW or CXL, and its pair has the right shape
  pub clean_known : Known (status_of (cell c.line 1))
  unfolding all_flags flags form_findings
  clean_known = status_found (status_of (cell c.line 1)) (cell c.line 47) (cell c.line 1) (no_flag rule_count (lit< tt))

  pub clean_4 : good c.line 4 ≡ true
  unfolding all_flags flags form_findings
  clean_4 = good_4 c.line ∙ ap not (no_flag (rule_count + 3) (lit< tt))

  pub clean_2 : good c.line 2 ≡ true
  unfolding all_flags flags form_findings
  clean_2 = good_2 c.line ∙ ap not (no_flag (rule_count + 1) (lit< tt))

  pub clean_shaped : Shaped (cell c.line 4) (cell c.line 2)
  clean_shaped = good_shaped c.line clean_known clean_4 clean_2

  -- NEW, or else CXL
  pub clean_cxl : is_new c.line ≡ false → is_cxl c.line ≡ true
  unfolding status_of
  clean_cxl e = by_test (is_cxl c.line) (λ t. t) (λ t. absurd (neither (rw (e, t) at clean_known)))
    where
      neither : Known Neither → ⊥
      neither (inl p) = let z : ◌≡◌ {A = ℕ} 0 1 = cc in omega arith
      neither (inr p) = let z : ◌≡◌ {A = ℕ} 0 1 = cc in omega arith
