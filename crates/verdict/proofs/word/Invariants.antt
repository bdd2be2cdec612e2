use Rattle.std.specs.Slice.Iter.{iter_rest}
use Rattle.verdict.proofs.BitLaws.{WordSoFar}
use Rattle.verdict.proofs.word.Given as goal

abbrev pub invariant-loop-flag : goal.invariant-loop-flag
invariant-loop-flag l = WordSoFar l.flags (iter_rest l.flag-iterator.iter) l.w
