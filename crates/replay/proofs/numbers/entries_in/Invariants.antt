use Rattle.replay.specs.Numbers.{entries_in}
use Rattle.text.proofs.Fill.{Begun}
use Rattle.replay.proofs.numbers.entries_in.Given as goal

abbrev pub invariant-loop-i : goal.invariant-loop-i
invariant-loop-i l = Begun (entries_in 200 l.s) l.entries l.i
