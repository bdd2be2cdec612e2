use mathlib.Core.Bool.{false, not}
use mathlib.Core.Path.{◌≡◌}
use mathlib.Core.List.{◌∷◌, map}
use Prim.Native.Nat.{◌≤◌, ◌+◌}
use lib.ListN.{length}
use Rattle.text.proofs.Fill.{Begun}
use Rattle.facts.proofs.lines.good_cells.Given as goal

abbrev pub invariant-loop-i : goal.invariant-loop-i
invariant-loop-i l = (l.i ≤ 65) × (length l.found ≡ 65) × Begun (false ∷ map not l.found) l.ok (l.i + 1)
