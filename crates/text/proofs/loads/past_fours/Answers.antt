use mathlib.Core.Path.{sym, ◌∙◌}
use Rattle.text.proofs.LoadLaws.{fours_none, fours_start, fours_on}
use native.Mathlib.Omega.{arith}
use Rattle.text.proofs.loads.past_fours.Goals as goal

pub overflow_mul-width : goal.overflow_mul-width
overflow_mul-width c = omega (arith, c.requires.0.short)

pub returns-then-s-width : goal.returns-then-s-width
returns-then-s-width c = fours_none c.requires.1

pub overflow_mul-last : goal.overflow_mul-last
overflow_mul-last c = omega (arith, c.requires.0.short)

pub loop-at-init : goal.loop-at-init
loop-at-init c = fours_start c.requires.0 c.requires.1 (omega arith)

pub in_four-requires : goal.in_four-requires
in_four-requires c = (c.loop-at.invariant.rowed, omega arith)

pub returns-then-in_four : goal.returns-then-in_four
returns-then-in_four c = c.loop-at.invariant.passed

pub overflow_mul-at : goal.overflow_mul-at
overflow_mul-at c = omega (arith, c.loop-at.invariant.rowed.short)

pub overflow_add-at : goal.overflow_add-at
overflow_add-at c = omega (arith, c.loop-at.invariant.rowed.short)

pub loop-at-smaller : goal.loop-at-smaller
loop-at-smaller c = omega (arith, c.loop-at.invariant.last_is, c.loop-at.invariant.rowed.nonzero)

pub loop-at-preserved : goal.loop-at-preserved
loop-at-preserved c = fours_on c.loop-at.invariant (omega arith) (sym c.in_four.ensures ∙ c.if-in_four.false)

pub returns : goal.returns
returns c = c.loop-at.invariant.passed
