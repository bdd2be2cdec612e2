use Rattle.cells.proofs.PassLaws.{stepped}
use native.Mathlib.Omega.{arith}
use Rattle.cells.proofs.pass.step.Goals as goal

pub overflow_add-result : goal.overflow_add-result
overflow_add-result c = omega (arith, (stepped c.requires).few, c.requires.entries)

pub returns : goal.returns
returns c = stepped c.requires
