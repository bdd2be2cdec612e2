use Prim.Native.Nat.{◌*◌}
use Rattle.cells.specs.Pass.{Met}
use Rattle.cells.proofs.pass.split.Given as goal

abbrev pub invariant-loop-n : goal.invariant-loop-n
invariant-loop-n l = Met l.line l.places l.bars (16 * l.n)
