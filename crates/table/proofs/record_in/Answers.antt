use Rattle.std.proofs.Common.{arith, length}
use Rattle.std.proofs.lemmas.List.{get_or_default}
use borrow.Author.Tests.{lt-ltb, le-ltb}
use Rattle.table.specs.Rows.{record_in}
use Rattle.table.proofs.record_in.Goals as goal

pub returns-then-i-records : goal.returns-then-i-records
unfolding record_in
returns-then-i-records c =
    rw (lt-ltb c.args.i (length c.args.records.now) (omega arith)) (get_or_default c.args.records.now c.args.i _ _ (omega arith))

pub returns-else-i-records : goal.returns-else-i-records
unfolding record_in
returns-else-i-records c = rw (le-ltb c.args.i (length c.args.records.now) (omega arith))
