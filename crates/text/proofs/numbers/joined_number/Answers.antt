use Prim.Native.Nat.{◌-◌}
use lib.ListN.{length}
use Rattle.text.proofs.NumberLaws.{joined_long, joined_short, joined_fits, ten_grows}
use native.Mathlib.Omega.{arith}
use Rattle.text.proofs.numbers.joined_number.Goals as goal

pub returns-then-s-t-gt18 : goal.returns-then-s-t-gt18
returns-then-s-t-gt18 c = joined_long c.args.s.now c.args.t.now (omega arith)

pub written_on-requires : goal.written_on-requires
written_on-requires c = (omega arith, ten_grows 0 (18 - length c.args.s.now) (omega arith))

pub written_on-requires-2 : goal.written_on-requires-2
written_on-requires-2 c = (omega arith, joined_fits c.args.s.now c.args.t.now (omega arith) c.written_on.ensures)

pub returns : goal.returns
returns c = joined_short c.args.s.now c.args.t.now (omega arith) c.written_on.ensures c.written_on-2.ensures
