use Rattle.cells.specs.Pass.{Met}
use Rattle.cells.proofs.pass.last_steps.Given as goal

abbrev pub invariant-loop-i : goal.invariant-loop-i
invariant-loop-i l = Met l.line l.places l.bars l.i
