-- Each public function's contract determines its answer.
use Rattle.std.specs.Prelude.{ℕ, List}
use Rattle.forms.specs.declared.read.Read.{Read}
use Rattle.text.proofs.Determined.{Seen, Determined, same_both}
use Rattle.forms.proofs.read.read_cells.Kinds as read_cells_kinds
use Rattle.forms.proofs.read.read_cells.Reads as read_cells_reads
use Rattle.forms.proofs.read.ReadLine.cell.Kinds as cell_kinds
use Rattle.forms.proofs.read.ReadLine.cell.Reads as cell_reads
use Rattle.forms.proofs.new_cells.new_findings.Kinds as new_findings_kinds
use Rattle.forms.proofs.new_cells.new_findings.Reads as new_findings_reads
use Rattle.forms.proofs.findings.status_of.Kinds as status_of_kinds
use Rattle.forms.proofs.findings.status_of.Reads as status_of_reads
use Rattle.forms.proofs.findings.form_findings.Kinds as form_findings_kinds
use Rattle.forms.proofs.findings.form_findings.Reads as form_findings_reads
use Rattle.forms.proofs.findings.other_findings.Kinds as other_findings_kinds
use Rattle.forms.proofs.findings.other_findings.Reads as other_findings_reads

pub status_of_determined : Determined status_of_kinds.ps status_of_kinds.r status_of_reads.Post
status_of_determined κs a x y s t = same_both

pub form_findings_determined : Determined form_findings_kinds.ps form_findings_kinds.r form_findings_reads.Post
form_findings_determined κs a x y s t = same_both

pub other_findings_determined : Determined other_findings_kinds.ps other_findings_kinds.r other_findings_reads.Post
other_findings_determined κs a x y s t = same_both

pub read_cells_determined : Seen read_cells_kinds.ps read_cells_kinds.r {B = λ κs. List ℕ × Read} (λ κs x. (x.split.now.line.now, x.read)) read_cells_reads.Post
read_cells_determined κs a x y s t p q = λ i. (same_both p.0 q.0 i, same_both p.1 q.1 i)

pub cell_determined : Seen cell_kinds.ps cell_kinds.r (λ κs x. x.now) cell_reads.Post
cell_determined κs a x y s t = same_both

pub new_findings_determined : Determined new_findings_kinds.ps new_findings_kinds.r new_findings_reads.Post
new_findings_determined κs a x y s t = same_both
