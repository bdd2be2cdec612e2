use Rattle.std.proofs.Common.{◌+◌, ◌-◌, length}
use Rattle.lists.proofs.PassLaws.{ReadSoFar}
use Rattle.lists.proofs.scan.list_says.Given as goal

abbrev pub invariant-loop-at : goal.invariant-loop-at
invariant-loop-at g l = ReadSoFar g.L.List.mark l.width l.list l.key l.day l.found l.at

abbrev pub decreases-loop-at : goal.decreases-loop-at
decreases-loop-at g l = length l.list + 9 - l.at
