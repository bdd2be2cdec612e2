use Prim.Native.Nat.{◌*◌}
use Rattle.ident.proofs.RemainderLaws.{LeftSoFar}
use Rattle.ident.proofs.codes.lei_remainder.Given as goal

abbrev pub invariant-loop-n : goal.invariant-loop-n
invariant-loop-n l = LeftSoFar l.s l.k (8 * l.n)
