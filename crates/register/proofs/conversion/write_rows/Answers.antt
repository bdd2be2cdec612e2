use Rattle.register.specs.Conversion.{undated}
use Rattle.register.proofs.ConversionLaws.{cut_length, written_on}
use borrow.Author.Rules.{rules}
use native.Mathlib.Omega.{arith}
use Rattle.register.proofs.conversion.write_rows.Goals as goal

pub loop-row-init : goal.loop-row-init
unfolding undated
loop-row-init c = search rules

pub copy_in-requires : goal.copy_in-requires
copy_in-requires c = omega (arith, cut_length c.args.from.now c.loop-row.row (omega arith))

pub write_le32-requires : goal.write_le32-requires
write_le32-requires c = omega (arith, c.copy_in.auto.bytes)

pub loop-row-preserved : goal.loop-row-preserved
loop-row-preserved c = written_on c.args.from.now c.loop-row.row (omega arith) c.args.to.now c.loop-row.invariant c.copy_in.ensures c.write_le32.ensures
