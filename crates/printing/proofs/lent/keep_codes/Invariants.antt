use Rattle.buffer.proofs.KeptLaws.{KeptSoFar}
use Rattle.printing.specs.Printed.{spaced}
use Rattle.printing.proofs.lent.keep_codes.Given as goal

abbrev pub invariant-loop-code : goal.invariant-loop-code
invariant-loop-code l = KeptSoFar spaced l.codes l.initial.out l.kept l.out l.n l.code-index
