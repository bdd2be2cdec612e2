use Rattle.text.proofs.LoadLaws.{next_here, next_past, next_end}
use native.Mathlib.Omega.{arith}
use Rattle.text.proofs.loads.next_row.Goals as goal

pub loop-at-init : goal.loop-at-init
loop-at-init c = record { rowed = c.requires.0; passed = c.past_fours-at.ensures }

pub overflow_add-at : goal.overflow_add-at
overflow_add-at c = omega (arith, c.loop-at.invariant.rowed.short, c.loop-at.invariant.passed.within)

pub overflow_add-at-in-loop-at : goal.overflow_add-at-in-loop-at
overflow_add-at-in-loop-at c = omega (arith, c.loop-at.invariant.rowed.room)

pub word-requires : goal.word-requires
word-requires c = (c.loop-at.invariant.rowed.sized, omega (arith, c.loop-at.invariant.rowed.room))

pub returns-then-word-asked : goal.returns-then-word-asked
returns-then-word-asked c = next_here c.loop-at.invariant (omega arith) c.word.ensures c.if-word-asked.true

pub loop-at-smaller : goal.loop-at-smaller
loop-at-smaller c = omega (arith, c.loop-at.invariant.rowed.nonzero)

pub loop-at-preserved : goal.loop-at-preserved
loop-at-preserved c = next_past c.loop-at.invariant (omega arith) c.word.ensures c.if-word-asked.false

pub returns : goal.returns
returns c = next_end c.loop-at.invariant (omega arith)
