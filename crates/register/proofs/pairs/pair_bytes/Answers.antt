use lib.ListN.{length-set}
use Rattle.register.proofs.PairLaws.{cut_short, pair_built}
use native.Mathlib.Omega.{arith}
use Rattle.register.proofs.pairs.pair_bytes.Goals as goal

pub overflow_cast-pair : goal.overflow_cast-pair
overflow_cast-pair c = omega (arith, cut_short 52 c.args.reference.now c.head-cut.ensures)

pub copy_in-requires-2 : goal.copy_in-requires-2
copy_in-requires-2 c = simp length-set (omega (arith, cut_short 52 c.args.reference.now c.head-cut.ensures, c.copy_in.auto.bytes))

pub returns : goal.returns
returns c = pair_built c.args.entity.now c.args.reference.now c.head.ensures c.head-cut.ensures c.copy_in.ensures c.copy_in-2.ensures
