use Prim.Native.Nat.{◌*◌, ◌^◌}
use Rattle.ident.proofs.RemainderLaws.{parts_on, part_below}
use native.Mathlib.Omega.{arith}
use Rattle.ident.proofs.codes.with_four.Goals as goal

pub with_two-requires-2 : goal.with_two-requires-2
with_two-requires-2 c = let a = c.args in
    (part_below 2 a.s.now a.at a.k (omega arith) c.with_two.ensures (97 * 10 ^ 9) (omega arith), omega arith)

pub returns : goal.returns
returns c = let a = c.args in
    parts_on 2 a.s.now a.at a.k (omega arith) c.with_two.ensures 2 c.with_two-2.ensures

pub with_two-requires : goal.with_two-requires
with_two-requires c = (omega arith, omega arith)
