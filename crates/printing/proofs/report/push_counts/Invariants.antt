use Rattle.std.proofs.Common.{length}
use Rattle.printing.proofs.ReportLaws.{CountedSoFar}
use Rattle.printing.proofs.report.push_counts.Given as goal

abbrev pub invariant-loop-code : goal.invariant-loop-code
invariant-loop-code g l = CountedSoFar l.codes l.counts g.row.N l.initial.out l.out (length l.yielded)
