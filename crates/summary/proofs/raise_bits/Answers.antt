use lib.Count.{trailing_le}
use native.Mathlib.Omega.{arith}
use Rattle.summary.proofs.RaiseLaws.{raised_start, raised_stop, raised_end, low_at, low_under, low_within, left_less, raised_on}
use Rattle.summary.proofs.raise_bits.Goals as goal

pub loop-left-init : goal.loop-left-init
loop-left-init c = raised_start

pub overflow_cast-lowest : goal.overflow_cast-lowest
overflow_cast-lowest c = omega (arith, trailing_le 64 c.loop-left.left)

pub overflow_sub-counters : goal.overflow_sub-counters
overflow_sub-counters c = omega (arith, c.requires, c.loop-left.invariant.length_is)

pub shape_of-counters-then-counters-from : goal.shape_of-counters-then-counters-from
shape_of-counters-then-counters-from c = c.loop-left.invariant.length_is

pub returns-then-counters-from : goal.returns-then-counters-from
returns-then-counters-from c = raised_stop c.loop-left.invariant (omega (arith, c.if-counters-from.true))

pub offset_bounds-counters-from : goal.offset_bounds-counters-from
offset_bounds-counters-from c = omega (arith, low_at c.loop-left.invariant c.loop-left-test.true c.ranges.word.fits (omega arith), c.loop-left.invariant.length_is)

pub bounds-counters-from : goal.bounds-counters-from
bounds-counters-from c = low_at c.loop-left.invariant c.loop-left-test.true c.ranges.word.fits (omega arith)

pub overflow_shl-left : goal.overflow_shl-left
overflow_shl-left c = low_under c.loop-left.invariant c.loop-left-test.true c.ranges.word.fits (omega arith)

pub overflow_sub-left : goal.overflow_sub-left
overflow_sub-left c = low_within c.loop-left.invariant c.loop-left-test.true c.ranges.word.fits (omega arith)

pub loop-left-smaller : goal.loop-left-smaller
loop-left-smaller c = left_less c.loop-left.invariant c.loop-left-test.true c.ranges.word.fits (omega arith)

pub loop-left-preserved : goal.loop-left-preserved
loop-left-preserved c = raised_on c.loop-left.invariant c.loop-left-test.true c.ranges.word.fits (omega arith) c.raise-stuck.ensures.told c.raise-stuck.ensures.risen

pub shape_of-counters : goal.shape_of-counters
shape_of-counters c = c.loop-left.invariant.length_is

pub returns : goal.returns
returns c = raised_end c.loop-left.invariant (omega arith)
