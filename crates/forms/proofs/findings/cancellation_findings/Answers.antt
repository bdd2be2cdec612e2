use mathlib.Core.Path.{◌∙◌, ap}
use mathlib.Core.Bool.{false, not, ◌||◌}
use lib.Dec.{eqb}
use lib.ListN.{length, set, replicate}
use Rattle.text.specs.Class.{run_of}
use Rattle.text.specs.declared.classes.Class.TheVariants.{CapitalDigit}
use Rattle.ident.specs.Codes.{lei_shaped}
use Rattle.forms.specs.declared.findings.Status.TheVariants.{Cancellation}
use Rattle.forms.specs.declared.tables.Form.TheVariants.{ReportStatus}
use Rattle.forms.specs.Forms.{holds, form_of}
use Rattle.forms.specs.Findings.{form_finding}
use Rattle.forms.proofs.ReadLaws.{by_status}
use Rattle.forms.proofs.findings.cancellation_findings.Goals as goal

pub returns : goal.returns
unfolding form_finding form_of holds
returns c = (λ i. set (set (set (set (replicate 65 false)
    0 (eqb (length (c.cell-c1.ensures i)) 0 || not ((c.is_status.ensures ∙ ap (holds ReportStatus) c.cell-c1.ensures) i)))
    1 (eqb (length (c.cell-c2.ensures i)) 0 || not ((c.run_of.ensures ∙ ap (run_of CapitalDigit 1 52) c.cell-c2.ensures) i)))
    3 (eqb (length (c.cell-c4.ensures i)) 0 || not ((c.lei_shaped.ensures ∙ ap lei_shaped c.cell-c4.ensures) i)))
    5 (eqb (length (c.cell-c6.ensures i)) 0 || not ((c.lei_shaped-2.ensures ∙ ap lei_shaped c.cell-c6.ensures) i)))
    ∙ by_status _ Cancellation c.requires
