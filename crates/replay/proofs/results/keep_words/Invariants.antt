use Rattle.replay.specs.Numbers.{each_in}
use Rattle.buffer.proofs.KeptLaws.{KeptSoFar}
use Rattle.replay.proofs.results.keep_words.Given as goal

abbrev pub invariant-loop-word : goal.invariant-loop-word
invariant-loop-word l = KeptSoFar (each_in 8) l.words l.initial.out l.kept l.out l.n l.word-index
