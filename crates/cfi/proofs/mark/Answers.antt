use Rattle.std.proofs.Common.{arith}
use Rattle.cfi.proofs.WalkLaws.{marked_on, marked_end}
use Rattle.cfi.proofs.mark.Goals as goal

pub loop-i-preserved : goal.loop-i-preserved
loop-i-preserved c = marked_on c.loop-i.invariant (omega arith)

pub returns : goal.returns
returns c = marked_end c.loop-i.invariant (omega arith)
