use Rattle.register.specs.Frame.{used}
use Rattle.register.proofs.frame.used.Goals as goal

pub returns : goal.returns
unfolding used
returns c = c.le32.ensures
