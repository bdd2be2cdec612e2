use Rattle.buffer.proofs.KeptLaws.{KeptSoFar}
use Rattle.buffer.proofs.keep_all.Given as goal

abbrev pub invariant-loop-b : goal.invariant-loop-b
invariant-loop-b l = KeptSoFar (λ s. s) l.bytes l.initial.buffer l.kept l.buffer l.n l.b-index
