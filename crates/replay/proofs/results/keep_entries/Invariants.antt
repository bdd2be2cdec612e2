use Rattle.replay.specs.Numbers.{each_in}
use Rattle.buffer.proofs.KeptLaws.{KeptSoFar}
use Rattle.replay.proofs.results.keep_entries.Given as goal

abbrev pub invariant-loop-entry : goal.invariant-loop-entry
invariant-loop-entry l = KeptSoFar (each_in 2) l.entries l.initial.out l.kept l.out l.n l.entry-index
