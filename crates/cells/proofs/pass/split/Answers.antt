use Rattle.cells.proofs.PassLaws.{met_none, sixteen_ahead, over_many, too_many, not_whole_lem}
use Rattle.cells.proofs.Tables.{split_yes}
use Rattle.std.proofs.Common.{◌≡◌, ◌+◌, ◌*◌, ◌/◌, length}
use native.Mathlib.Omega.{arith}
use Rattle.cells.proofs.pass.split.Goals as goal

pub returns-then-bars-gt64 : goal.returns-then-bars-gt64
returns-then-bars-gt64 c = too_many (over_many c.loop-n.invariant (omega arith)) (omega arith)

pub sixteen_steps-bars-requires : goal.sixteen_steps-bars-requires
sixteen_steps-bars-requires c = sixteen_ahead c.loop-n.invariant (omega arith) (omega arith)

pub returns-then-bars-ne64 : goal.returns-then-bars-ne64
returns-then-bars-ne64 c = not_whole_lem c.last_steps-bars.ensures c.if-bars-ne64.true

pub from_places-requires : goal.from_places-requires
from_places-requires c = c.last_steps-bars.ensures.whole c.if-bars-ne64.false

pub loop-n-init : goal.loop-n-init
loop-n-init c = met_none _

pub loop-n-preserved : goal.loop-n-preserved
loop-n-preserved c =
    let e : 16 * c.loop-n.n + 16 ≡ 16 * (c.loop-n.n + 1) = omega arith in
    rw e at c.sixteen_steps-bars.ensures.met

pub last_steps-bars-requires : goal.last_steps-bars-requires
last_steps-bars-requires c =
    let e : c.loop-n.n ≡ length c.args.line.now / 16 = omega arith in
    rw e at c.loop-n.invariant

pub returns : goal.returns
returns c = split_yes _ c.from_places.result c.from_places.ensures
