-- The flags of a line.
use mathlib.Core.Path.{◌≡◌, refl}
use mathlib.Core.Bool.{true, false}
use mathlib.Core.List.{List}
use Prim.Native.Nat.{ℕ}
use lib.ListN.{length}
use Rattle.text.specs.Word.{same}
use Rattle.forms.specs.declared.findings.Status.TheVariants.{New, Cancellation, Neither}
use Rattle.forms.specs.Forms.{status_word}
use Rattle.forms.specs.Findings.{status_of, form_findings}

pub findings_count : (line : List ℕ) → length (form_findings line) ≡ 65
unfolding form_findings
findings_count line = refl

-- the status that cell 1 gives
pub new_status : (s : List ℕ) → same (status_word New) s ≡ true → status_of s ≡ New
unfolding status_of
new_status s e = rw e

pub cxl_status : (s : List ℕ) → same (status_word New) s ≡ false → same (status_word Cancellation) s ≡ true → status_of s ≡ Cancellation
unfolding status_of
cxl_status s other e = rw (other, e)

pub neither_status : (s : List ℕ) → same (status_word New) s ≡ false → same (status_word Cancellation) s ≡ false → status_of s ≡ Neither
unfolding status_of
neither_status s other none = rw (other, none)
