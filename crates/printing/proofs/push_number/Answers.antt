use Prim.Native.Nat.{◌<◌, ◌^◌}
use mathlib.Core.Path.{◌∙◌}
use native.Mathlib.Omega.{arith}
use Rattle.printing.proofs.DecimalLaws.{few_short, digits_few}
use Rattle.printing.proofs.push_number.Goals as goal

pub returns : goal.returns
returns g c =
    let small : c.args.n < 2 ^ 64 = omega arith in
    let few = c.decimal-k.ensures.len in
    rw (c.decimal-k.ensures.digits ∙ digits_few 20 c.decimal-k.result c.args.n (few_short c.args.n c.decimal-k.result small few) few) at c.push_all.ensures.keeps
