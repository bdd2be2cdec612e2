use Rattle.std.proofs.Common.{◌≡◌, length}
use Rattle.amount.specs.Decimal.{without_last_zeros}
use Rattle.amount.proofs.without_last_zeros.Given as goal

abbrev pub invariant-loop-left : goal.invariant-loop-left
invariant-loop-left l = without_last_zeros l.left ≡ without_last_zeros l.s

abbrev pub decreases-loop-left : goal.decreases-loop-left
decreases-loop-left l = length l.left
