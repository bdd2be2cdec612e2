use Rattle.cells.proofs.PassLaws.{Copied}
use Rattle.cells.proofs.pass.from_places.Given as goal

abbrev pub invariant-loop-k : goal.invariant-loop-k
invariant-loop-k l = Copied l.places l.starts l.ends l.k
