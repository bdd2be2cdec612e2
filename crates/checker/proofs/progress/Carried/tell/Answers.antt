use Rattle.std.proofs.Common.{arith}
use Rattle.checker.proofs.ProgressLaws.{told_none, told_one}
use Rattle.checker.proofs.progress.Carried.tell.Goals as goal

pub returns-then-self-le1 : goal.returns-then-self-le1
returns-then-self-le1 c = told_none (omega arith) c.clear.ensures

pub returns-else-self-le1 : goal.returns-else-self-le1
returns-else-self-le1 c = told_one (omega arith) c.answer.ensures
