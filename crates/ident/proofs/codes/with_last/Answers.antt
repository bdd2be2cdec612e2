use Rattle.ident.proofs.RemainderLaws.{behind_none, room_behind, behind_on, behind_all}
use native.Mathlib.Omega.{arith}
use Rattle.ident.proofs.codes.with_last.Goals as goal
use Rattle.ident.proofs.codes.with_last.Goals.{then-s-ge4, else-s-ge4}

pub loop-i-init : goal.loop-i-init
loop-i-init c = elim c.if-s-ge4.branch [
  | then-s-ge4 w ↦ rw (w.v-is, w.start-is) (record { within = w.if-s-ge4.true; so_far = w.with_four-v.ensures })
  | else-s-ge4 w ↦ rw (w.v-is, w.start-is) behind_none
]

pub behind-v-requires : goal.behind-v-requires
behind-v-requires c = room_behind c.loop-i.invariant (omega arith) (omega arith) (omega arith)

pub loop-i-preserved : goal.loop-i-preserved
loop-i-preserved c = behind_on c.loop-i.invariant (omega arith) c.behind-v.ensures

pub returns : goal.returns
returns c = behind_all c.loop-i.invariant (omega arith)

pub with_four-v-requires : goal.with_four-v-requires
with_four-v-requires c = (omega arith, omega arith)
