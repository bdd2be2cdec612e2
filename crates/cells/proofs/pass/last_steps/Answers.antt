use Rattle.cells.proofs.PassLaws.{one_ahead, over_many, over_end}
use native.Mathlib.Omega.{arith}
use Rattle.cells.proofs.pass.last_steps.Goals as goal

pub step-bars-requires : goal.step-bars-requires
step-bars-requires c = one_ahead c.loop-i.invariant (omega arith) (omega arith)

pub returns-then-bars-gt64 : goal.returns-then-bars-gt64
returns-then-bars-gt64 c = over_many c.loop-i.invariant (omega arith)

pub returns : goal.returns
returns c = over_end c.loop-i.invariant (omega arith)

pub loop-i-init : goal.loop-i-init
loop-i-init c = c.requires

pub loop-i-preserved : goal.loop-i-preserved
loop-i-preserved c = c.step-bars.ensures.met
