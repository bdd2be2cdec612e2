use Rattle.cells.proofs.PassLaws.{part_of, part_after, walked_on}
use native.Mathlib.Omega.{arith}
use Rattle.cells.proofs.pass.four_steps.Goals as goal

pub step-first-requires : goal.step-first-requires
step-first-requires c = part_of c.requires (omega arith)

pub step-second-requires : goal.step-second-requires
step-second-requires c = part_after c.requires (omega arith) c.step-first.ensures

pub step-third-requires : goal.step-third-requires
step-third-requires c = part_after c.requires (omega arith) (walked_on c.step-first.ensures c.step-second.ensures)

pub step-requires : goal.step-requires
step-requires c = part_after c.requires (omega arith) (walked_on (walked_on c.step-first.ensures c.step-second.ensures) c.step-third.ensures)

pub returns : goal.returns
returns c = walked_on (walked_on (walked_on c.step-first.ensures c.step-second.ensures) c.step-third.ensures) c.step.ensures
