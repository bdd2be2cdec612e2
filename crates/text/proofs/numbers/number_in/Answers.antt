use mathlib.Core.Path.{◌∙◌}
use Prim.Native.Nat.{◌-◌}
use lib.ListN.{length}
use Rattle.text.proofs.NumberLaws.{number_long, number_short, ten_grows}
use native.Mathlib.Omega.{arith}
use Rattle.text.proofs.numbers.number_in.Goals as goal

pub returns-then-s-gt18 : goal.returns-then-s-gt18
returns-then-s-gt18 c = number_long c.args.s.now c.if-s-gt18.true

pub written_on-requires : goal.written_on-requires
written_on-requires c = (omega arith, ten_grows 0 (18 - length c.args.s.now) (omega arith))

pub returns : goal.returns
returns c = c.written_on.ensures ∙ number_short c.args.s.now (omega arith)
