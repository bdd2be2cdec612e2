use mathlib.Core.Path.{◌≡◌, ◌∙◌, ap}
use mathlib.Core.List.{List}
use Prim.Native.Nat.{ℕ, ◌+◌, ◌*◌, ◌/◌}
use lib.ListN.{length, length-drop}
use Rattle.ident.specs.Written.{written_digits, decimal}
use Rattle.ident.proofs.RemainderLaws.{left_start, left_end, left_on, parts_on, part_below}
use native.Mathlib.Omega.{arith}
use Rattle.ident.proofs.codes.lei_remainder.Goals as goal

pub loop-n-init : goal.loop-n-init
loop-n-init c = left_start

pub with_four-k-requires : goal.with_four-k-requires
with_four-k-requires c = let l = c.loop-n in
    (omega (arith, part_below 4 c.args.s.now (8 * l.n) l.k (omega arith) c.with_four.ensures 97 l.invariant.small), omega arith)

pub loop-n-preserved : goal.loop-n-preserved
loop-n-preserved c = let l = c.loop-n in
    let next : 8 * (l.n + 1) ≡ 8 * l.n + 8 = omega arith in
    rw next
    (left_on l.invariant 8 (omega arith)
    (parts_on 4 c.args.s.now (8 * l.n) l.k (omega arith) c.with_four.ensures 4 c.with_four-k.ensures))

pub with_last-requires : goal.with_last-requires
with_last-requires c = (c.loop-n.invariant.small, rw (c.rest.ensures, length-drop) (omega arith))

pub returns : goal.returns
returns c =
    let all : length c.args.s.now / 8 ≡ c.loop-n.n = omega arith in
    left_end c.loop-n.invariant (rw all at (c.with_last.ensures ∙ ap (λ (s : List ℕ). decimal c.loop-n.k (written_digits s)) c.rest.ensures))

pub with_four-requires : goal.with_four-requires
with_four-requires c = (omega arith, omega arith)
