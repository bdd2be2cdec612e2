use Rattle.cells.proofs.PassLaws.{part_of, part_after, walked_on}
use native.Mathlib.Omega.{arith}
use Rattle.cells.proofs.pass.sixteen_steps.Goals as goal

pub four_steps-first-requires : goal.four_steps-first-requires
four_steps-first-requires c = part_of c.requires (omega arith)

pub four_steps-second-requires : goal.four_steps-second-requires
four_steps-second-requires c = part_after c.requires (omega arith) c.four_steps-first.ensures

pub four_steps-third-requires : goal.four_steps-third-requires
four_steps-third-requires c = part_after c.requires (omega arith) (walked_on c.four_steps-first.ensures c.four_steps-second.ensures)

pub four_steps-requires : goal.four_steps-requires
four_steps-requires c = part_after c.requires (omega arith) (walked_on (walked_on c.four_steps-first.ensures c.four_steps-second.ensures) c.four_steps-third.ensures)

pub returns : goal.returns
returns c = walked_on (walked_on (walked_on c.four_steps-first.ensures c.four_steps-second.ensures) c.four_steps-third.ensures) c.four_steps.ensures
