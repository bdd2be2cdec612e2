use Rattle.verdict.proofs.PlaceLaws.{put_past, put_mid_is}
use native.Mathlib.Omega.{arith}
use Rattle.verdict.proofs.place.Goals as goal
use Rattle.verdict.proofs.place.Goals.{else-at-le-CODE_COUNT-via-then-at-le-CODE_COUNT+else-group-at, else-at-le-CODE_COUNT-via-else-at-le-CODE_COUNT}

pub returns-then-group-at : goal.returns-then-group-at
returns-then-group-at c = rw c.copy_from_slice.ensures.after (put_mid_is c.args.base c.args.group.now c.args.at _ (omega arith) (omega arith))

pub returns-else-at-le-CODE_COUNT : goal.returns-else-at-le-CODE_COUNT
returns-else-at-le-CODE_COUNT c =
    put_past
    c.args.base
    c.args.at
    c.args.group.now
    (elim c.else-at-le-CODE_COUNT.branch [
      | else-at-le-CODE_COUNT-via-then-at-le-CODE_COUNT+else-group-at w ↦ omega arith
      | else-at-le-CODE_COUNT-via-else-at-le-CODE_COUNT w ↦ omega arith
    ])
