use mathlib.Core.Path.{refl}
use Rattle.register.proofs.Stores.{stored}
use native.Mathlib.Omega.{arith}
use Rattle.register.proofs.pairs.copy_in.Goals as goal

pub returns : goal.returns
returns c = rw c.copy_from_slice.ensures.after (stored c.args.bytes.now c.args.part.now c.args.at _ refl (omega arith))
