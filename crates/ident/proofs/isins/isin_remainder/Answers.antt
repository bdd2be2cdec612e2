use lib.ListN.{get_or}
use Rattle.ident.proofs.WrittenLaws.{value_small}
use Rattle.ident.proofs.CheckLaws.{summed_start, summed_on, summed_end}
use native.Mathlib.Omega.{arith}
use Rattle.ident.proofs.isins.isin_remainder.Goals as goal

pub loop-b-init : goal.loop-b-init
loop-b-init c = summed_start

pub with_value-x-requires : goal.with_value-x-requires
with_value-x-requires c = (c.loop-b.invariant.small.plain_small, c.loop-b.invariant.small.twice_small, omega (arith, c.value_of.ensures, value_small (get_or c.args.s.now c.loop-b.b-index 0)))

pub loop-b-preserved : goal.loop-b-preserved
loop-b-preserved c = summed_on c.loop-b.invariant (omega arith) c.value_of.ensures c.with_value-x.ensures

pub returns : goal.returns
returns c = summed_end c.loop-b.invariant (omega arith)
