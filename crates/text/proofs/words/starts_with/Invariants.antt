use Rattle.text.proofs.WordLaws.{EndedSoFar}
use Rattle.text.proofs.words.starts_with.Given as goal

abbrev pub invariant-loop-i : goal.invariant-loop-i
invariant-loop-i l = EndedSoFar l.word l.s l.i
