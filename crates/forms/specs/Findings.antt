-- Findings 1001 to 1065. Code 1000 + f: cell f is malformed, or blank though needed.
use Rattle.std.specs.Prelude.{ℕ, Bool, false, cond, not, ◌||◌, List, map, eqb}
use Rattle.text.specs.Word.{blank, same}
use Rattle.text.specs.Number.{count_from}
use Rattle.cells.specs.Cells.{cell}
use Rattle.forms.specs.declared.findings.Status.{Status}
use Rattle.forms.specs.declared.findings.Status.TheVariants.{New, Cancellation, Neither}
use Rattle.forms.specs.declared.tables.Form.{Form}
use Rattle.forms.specs.Forms.{status_word, holds, form_of}
use Rattle.forms.specs.Needs.{is_one_of, new_needs, cxl_needs}

-- cell 1: NEW, CXL, or neither
unfoldable pub status_of : List ℕ → Status
status_of s = cond (same (status_word New) s) New (cond (same (status_word Cancellation) s) Cancellation Neither)

-- what is found of a cell of the form, needed or not. Where cell 1 is neither NEW nor CXL the one finding is 1001
abbrev pub found : Status → Bool → Bool → Bool → Form → List ℕ → Bool
found New first new cxl form s = cond (blank s) new (not (holds form s))
found Cancellation first new cxl form s = cond cxl (blank s || not (holds form s)) false
found Neither first new cxl form s = first

-- of cell f, where cell 47 is `underlying`
unfoldable pub form_finding : Status → List ℕ → ℕ → List ℕ → Bool
form_finding status underlying f s = found status (eqb f 1) (is_one_of new_needs f) (is_one_of cxl_needs f) (form_of underlying f) s

-- the 65 flags of a line, cell by cell
unfoldable pub form_findings : List ℕ → List Bool
form_findings line = map (λ f. form_finding (status_of (cell line 1)) (cell line 47) f (cell line f)) (count_from 1 65)
