use Prim.Native.Nat.{◌+◌, ◌*◌, ◌^◌}
use Rattle.ident.proofs.RemainderLaws.{character_on, parts_on, part_below}
use native.Mathlib.Omega.{arith}
use Rattle.ident.proofs.codes.with_two.Goals as goal

pub behind-requires-2 : goal.behind-requires-2
behind-requires-2 c = let a = c.args in
    part_below 1 a.s.now a.at a.k (omega arith) (character_on a.s.now a.at a.k (omega arith) c.behind.ensures) (97 * 10 ^ 13) (omega arith)

pub returns : goal.returns
returns c = let a = c.args in
    parts_on 1 a.s.now a.at a.k (omega arith)
    (character_on a.s.now a.at a.k (omega arith) c.behind.ensures)
    1
    (character_on a.s.now (a.at + 1) c.behind.result (omega arith) c.behind-2.ensures)
