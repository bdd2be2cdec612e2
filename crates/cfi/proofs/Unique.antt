-- Each public function's contract determines its answer.
use Rattle.text.proofs.Determined.{Determined, same_both}
use Rattle.cfi.proofs.cfi_findings.Kinds as cfi_findings_kinds
use Rattle.cfi.proofs.cfi_findings.Reads as cfi_findings_reads
use Rattle.cfi.proofs.debt_and_bond.Kinds as debt_and_bond_kinds
use Rattle.cfi.proofs.debt_and_bond.Reads as debt_and_bond_reads

pub cfi_findings_determined : Determined cfi_findings_kinds.ps cfi_findings_kinds.r cfi_findings_reads.Post
cfi_findings_determined κs a x y s t = same_both

pub debt_and_bond_determined : Determined debt_and_bond_kinds.ps debt_and_bond_kinds.r debt_and_bond_reads.Post
debt_and_bond_determined κs a x y s t = same_both
