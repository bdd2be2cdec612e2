use Rattle.std.proofs.Common.{arith}
use Rattle.std.proofs.lemmas.Grind.{common_steps}
use Rattle.checker.proofs.ProgressLaws.{read_none}
use Rattle.checker.proofs.take_read.Goals as goal

pub returns-then-is_empty : goal.returns-then-is_empty
returns-then-is_empty g c = rw c.head-bytes.ensures at (read_none {p = c.args.progress.now} c.head-bytes.result.now (grind (arith, common_steps)))
