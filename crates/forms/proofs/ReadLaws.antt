-- What is found of a cell as a formula, and groups of flags laid one behind the other.
use mathlib.Core.Path.{◌≡◌, refl, sym}
use mathlib.Core.Bool.{Bool, true, false, not, cond, ◌&&◌, ◌||◌}
use mathlib.Core.List.{List, ◌++◌, map}
use Prim.Native.Nat.{ℕ}
use lib.ListN.{replicate}
use borrow.Rule.Slice.PartMut.{put_mid}
use Rattle.text.specs.Number.{count_from}
use Rattle.cells.specs.Cells.{cell}
use Rattle.forms.specs.declared.findings.Status.{Status}
use Rattle.forms.specs.declared.findings.Status.TheVariants.{New}
use Rattle.forms.specs.declared.tables.Form.{Form}
use Rattle.forms.specs.declared.tables.Form.TheVariants.{NoTerms}
use Rattle.forms.specs.Forms.{holds}
use Rattle.forms.specs.Findings.{status_of, form_finding, form_findings}
use Rattle.forms.specs.Read.{new_forms}

pub or_cond : (blank bad : Bool) → blank || bad ≡ cond blank true bad
or_cond true bad = refl
or_cond false bad = refl

pub and_cond : (blank bad : Bool) → not blank && bad ≡ cond blank false bad
and_cond true bad = refl
and_cond false bad = refl

-- the findings of a line whose status is known
pub by_status : (line : List ℕ) (status : Status) → status_of (cell line 1) ≡ status → map (λ f. form_finding status (cell line 47) f (cell line f)) (count_from 1 65) ≡ form_findings line
unfolding form_findings
by_status line status e = sym (λ i. map (λ f. form_finding (e i) (cell line 47) f (cell line f)) (count_from 1 65))

pub all_new : (line : List ℕ) → status_of (cell line 1) ≡ New
    → put_mid 52 13 (put_mid 39 13 (put_mid 26 13 (put_mid 13 13 (new_forms line 1 ++ replicate 52 false) (new_forms line 14)) (new_forms line 27)) (new_forms line 40)) (new_forms line 53)
    ≡ form_findings line
all_new line e = by_status line New e

-- a blank cell 47 leaves 49 no form
pub terms_if : (none : Bool) (form : Form) (s : List ℕ) → not none && holds form s ≡ holds (cond none NoTerms form) s
unfolding holds
terms_if true form s = refl
terms_if false form s = refl
