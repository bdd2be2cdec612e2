-- The flags of a call: how many there are, and how many codes they find.
use mathlib.Core.Path.{◌≡◌, ◌∙◌, refl, sym, ap}
use mathlib.Core.Bool.{Bool, true, false, ◌&&◌}
use mathlib.Core.List.{[], ◌∷◌, ◌++◌}
use Prim.Native.Nat.{ℕ, ◌≤◌}
use native.Mathlib.Omega.{arith}
use lib.ListN.{length}
use Rattle.forms.specs.Findings.{form_findings}
use Rattle.forms.proofs.FindingLaws.{findings_count}
use Rattle.facts.specs.Call.{Call}
use Rattle.facts.specs.Rules.{is_new, flags, polish_flags, all_flags}
use Rattle.verdict.specs.Codes.{codes, rule_count, base_count, code_count, entries_needed}
use Rattle.verdict.specs.Verdict.{codes_found}
use Rattle.verdict.specs.Counted.{flags_set}
use Rattle.verdict.proofs.ListLaws.{length_pick, pick_short, set_append, set_most}
use Rattle.verdict.proofs.Promises.{code_count_lem}

-- none of three rules is given that a call does not ask for, whatever its line
three_false : (judged : Bool) → (judged && false) ∷ (judged && false) ∷ (judged && false) ∷ [] ≡ false ∷ false ∷ false ∷ []
three_false true = refl
three_false false = refl

within : (polish : Bool) {n : ℕ} → (polish ≡ false → n ≤ base_count) → n ≤ code_count → n ≤ entries_needed polish
within true base all = all
within false base all = base refl

module _ (c : Call) where
  -- a call has a flag for each code
  pub flag_count : length (all_flags c) ≡ code_count
  unfolding all_flags flags form_findings polish_flags
  flag_count = refl

  rule_flags : length (flags c) ≡ rule_count
  unfolding flags
  rule_flags = refl

  pub none_polish : c.polish ≡ false → polish_flags c ≡ false ∷ false ∷ false ∷ []
  unfolding polish_flags
  none_polish off = rw off (three_false (is_new c.line))

  few_base : c.polish ≡ false → length (codes_found (all_flags c)) ≤ base_count
  unfolding all_flags flags_set
  few_base off =
      let forms = form_findings c.line in
      let none : flags_set (polish_flags c) ≡ 0 = ap flags_set (none_polish off) in
      let found : length (codes_found (all_flags c)) ≡ flags_set (all_flags c) = length_pick codes (all_flags c) (code_count_lem ∙ sym flag_count) in
      omega (arith, found, none, set_append (flags c) (forms ++ polish_flags c), set_append forms (polish_flags c), set_most (flags c), set_most forms, rule_flags, findings_count c.line)

  -- no more codes are found than entries are needed
  pub few_found : length (codes_found (all_flags c)) ≤ entries_needed c.polish
  few_found = within c.polish few_base (omega (arith, pick_short codes (all_flags c), code_count_lem))
