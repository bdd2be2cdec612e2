use Rattle.replay.proofs.NumberLaws.{entries_length, entry_at}
use Rattle.replay.specs.Numbers.{entries_in}
use Rattle.text.proofs.Fill.{begun_none, begun_more, begun_all}
use lib.ListN.{length}
use Prim.Native.Nat.{◌<◌}
use mathlib.Core.Path.{sym, ◌∙◌}
use native.Mathlib.Omega.{arith}
use Rattle.replay.proofs.numbers.entries_in.Goals as goal

pub loop-i-init : goal.loop-i-init
loop-i-init c = begun_none (sym (entries_length 200 _))

pub loop-i-preserved : goal.loop-i-preserved
loop-i-preserved c = let s = c.args.s.now in
    let i = c.loop-i.i in
    let small : i < length (entries_in 200 s) = omega (arith, entries_length 200 s) in
    begun_more c.loop-i.invariant 0 c.le16.result small (c.le16.ensures ∙ entry_at 200 i s (omega arith))

pub returns : goal.returns
returns c = begun_all c.loop-i.invariant (omega (arith, entries_length 200 c.args.s.now))
