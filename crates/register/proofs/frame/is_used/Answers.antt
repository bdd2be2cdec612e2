use Rattle.register.proofs.WidthLaws.{told_used}
use Rattle.register.proofs.frame.is_used.Goals as goal

pub returns : goal.returns
returns c = rw c.used.ensures (told_used c.args.register.now c.requires c.args.row)
