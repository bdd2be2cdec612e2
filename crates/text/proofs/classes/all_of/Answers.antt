use native.Mathlib.Omega.{arith}
use Rattle.text.proofs.ClassLaws.{all_start, all_on, all_end}
use Rattle.text.proofs.classes.all_of.Goals as goal

pub loop-b-init : goal.loop-b-init
loop-b-init c = all_start

pub loop-b-preserved : goal.loop-b-preserved
loop-b-preserved c = all_on c.loop-b.invariant (omega arith) c.is_in-good.ensures

pub returns : goal.returns
returns c = all_end c.loop-b.invariant (omega arith)
