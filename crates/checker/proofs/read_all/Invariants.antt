use Rattle.std.proofs.Common.{false}
use Rattle.checker.specs.Progress.{ReadOn}
use Rattle.checker.proofs.read_all.Given as goal

-- turn by turn, and the input has not ended
abbrev pub invariant-loop : goal.invariant-loop
invariant-loop g l = ReadOn l.initial.progress l.progress false l.counter
