use Rattle.std.proofs.Common.{◌≡◌}
use Rattle.checker.proofs.write_summary.Given as goal

abbrev pub invariant-loop-i : goal.invariant-loop-i
invariant-loop-i g l = l.rows ≡ l.i
