use Rattle.verdict.proofs.BitLaws.{word_start, word_on, word_end, word_fits}
use native.Mathlib.Omega.{arith}
use Rattle.verdict.proofs.word.Goals as goal

pub loop-flag-init : goal.loop-flag-init
loop-flag-init c = rw (c.into_iter-flag-iterator.ensures.into_iter_gives, c.rev-flag-items.ensures.source, c.iter.ensures.rest) (word_start c.args.flags.now)

pub overflow_mul-w : goal.overflow_mul-w
overflow_mul-w c = omega (arith, word_fits (word_on _ c.in-Some.field-0.now c.loop-flag.invariant c.in-Some.ensures.steps) c.requires)

pub overflow_add-w : goal.overflow_add-w
overflow_add-w c = omega (arith, word_fits (word_on _ c.in-Some.field-0.now c.loop-flag.invariant c.in-Some.ensures.steps) c.requires)

pub loop-flag-preserved : goal.loop-flag-preserved
loop-flag-preserved c = word_on _ c.in-Some.field-0.now c.loop-flag.invariant c.in-Some.ensures.steps

pub returns : goal.returns
returns c = word_end c.loop-flag.invariant c.in-None.ensures.steps.0
