use mathlib.Core.Bool.{false, not}
use mathlib.Core.Path.{◌≡◌, ◌∙◌, refl, sym, ap}
use Prim.Native.Nat.{suc, ◌<◌}
use lib.ListN.{length, get_or, length-map}
use Rattle.text.proofs.Fill.{begun_more, begun_all}
use Rattle.facts.proofs.GoodCells.{good_at}
use borrow.Author.Rules.{rules}
use native.Mathlib.Omega.{arith}
use Rattle.facts.proofs.lines.good_cells.Goals as goal

pub loop-i-init : goal.loop-i-init
loop-i-init c = let h : length c.args.found.now ≡ 65 = search rules in
    (omega arith, h, record { length_is = sym (ap suc (length-map c.args.found.now not ∙ h)); front = refl })

pub loop-i-preserved : goal.loop-i-preserved
loop-i-preserved c = let f = c.args.found.now in
    let h : length f ≡ 65 = c.loop-i.invariant.1 in
    let k : c.loop-i.i < length f = omega arith in
    (omega arith, h, begun_more c.loop-i.invariant.2 false (not (get_or f c.loop-i.i false)) (omega (arith, length-map f not)) (good_at f c.loop-i.i k))

pub returns : goal.returns
returns c = let f = c.args.found.now in
    let h : length f ≡ 65 = c.loop-i.invariant.1 in
    begun_all c.loop-i.invariant.2 (omega (arith, length-map f not))
