use mathlib.Core.Path.{◌≡◌}
use Prim.Native.Nat.{◌-◌}
use native.Mathlib.Omega.{arith}
use Rattle.reader.proofs.cell_before.Goals as goal

pub returns-then-next-lt1 : goal.returns-then-next-lt1
returns-then-next-lt1 c = let z : c.args.next - 1 - c.args.at ≡ 0 = omega arith in
    rw z c.head.ensures
