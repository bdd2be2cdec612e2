use Rattle.std.proofs.Common.{arith, ◌∙◌}
use Rattle.cfi.proofs.WalkLaws.{found_start, found_more, found_same, found_end}
use Rattle.cfi.proofs.Spelling.{found_is}
use Rattle.cfi.proofs.cfi_findings.Goals as goal
use Rattle.cfi.proofs.cfi_findings.Goals.{then-is_broken, else-is_broken}

pub loop-row-init : goal.loop-row-init
loop-row-init c = found_start

pub loop-row-preserved : goal.loop-row-preserved
loop-row-preserved c = elim c.if-is_broken.branch [
  | then-is_broken w ↦ found_more c.loop-row.invariant (omega arith) _ c.is_broken.ensures w.if-is_broken.true (w.found-is ∙ w.mark.ensures)
  | else-is_broken w ↦ found_same c.loop-row.invariant (omega arith) _ c.is_broken.ensures w.if-is_broken.false w.found-is
]

pub returns : goal.returns
returns c = found_end c.loop-row.invariant (omega arith) ∙ found_is c.args.kinds.now c.args.cfi.now (omega arith) c.rows_of-row-items.ensures
