use Prim.Native.Nat.{◌-◌}
use lib.ListN.{length}
use Rattle.register.proofs.RowLaws.{SearchSoFar}
use Rattle.register.proofs.rows.find.Given as goal

abbrev pub invariant-loop-at : goal.invariant-loop-at
invariant-loop-at l = SearchSoFar l.width l.register l.pair l.rows l.at

abbrev pub decreases-loop-at : goal.decreases-loop-at
decreases-loop-at l = length l.rows - l.at
