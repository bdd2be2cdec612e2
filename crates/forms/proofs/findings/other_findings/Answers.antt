use mathlib.Core.Path.{◌∙◌, sym, ap}
use Rattle.text.specs.Word.{same}
use Rattle.forms.specs.declared.findings.Status.TheVariants.{Cancellation, Neither}
use Rattle.forms.specs.Forms.{status_word}
use Rattle.forms.specs.Findings.{form_finding}
use Rattle.forms.proofs.FindingLaws.{cxl_status, neither_status}
use Rattle.forms.proofs.ReadLaws.{by_status}
use Rattle.forms.proofs.findings.other_findings.Goals as goal

pub cancellation_findings-requires : goal.cancellation_findings-requires
cancellation_findings-requires c = cxl_status _ c.requires (sym (c.same.ensures ∙ ap (same (status_word Cancellation)) c.cell.ensures) ∙ c.if-same.true)

pub returns : goal.returns
unfolding form_finding
returns c = by_status _ Neither (neither_status _ c.requires (sym (c.same.ensures ∙ ap (same (status_word Cancellation)) c.cell.ensures) ∙ c.if-same.false))
