use Rattle.verdict.proofs.WordLaws.{bits_start, bits_stop, bits_end, one_bit, low, bit_room, bits_on}
use lib.Pow.{pow_pos}
use lib.Count.{count_trailing_zeros, trailing_le}
use native.Mathlib.Omega.{arith}
use Rattle.verdict.proofs.list_bits.Goals as goal

pub returns-then-table-lowest : goal.returns-then-table-lowest
returns-then-table-lowest c = bits_stop c.loop-left.invariant c.if-table-lowest.true

pub bounds-findings-n : goal.bounds-findings-n
bounds-findings-n c = bit_room c.loop-left.invariant c.requires (omega arith)

pub overflow_add-n : goal.overflow_add-n
overflow_add-n c = omega (arith, bit_room c.loop-left.invariant c.requires (omega arith), c.requires)

pub overflow_sub-left : goal.overflow_sub-left
overflow_sub-left c = omega (arith, one_bit (count_trailing_zeros 64 c.loop-left.left) (omega (arith, c.requires)), (low c.loop-left.invariant c.requires (omega arith)).within)

pub loop-left-smaller : goal.loop-left-smaller
loop-left-smaller c = omega (arith, one_bit (count_trailing_zeros 64 c.loop-left.left) (omega (arith, c.requires)), (low c.loop-left.invariant c.requires (omega arith)).within, pow_pos (count_trailing_zeros 64 c.loop-left.left))

pub loop-left-preserved : goal.loop-left-preserved
loop-left-preserved c = rw (one_bit (count_trailing_zeros 64 c.loop-left.left) (omega (arith, c.requires))) (bits_on c.loop-left.invariant c.requires (omega arith))

pub returns : goal.returns
returns c = bits_end c.loop-left.invariant (omega arith) c.requires.0

pub loop-left-init : goal.loop-left-init
loop-left-init c = bits_start

pub overflow_cast-lowest : goal.overflow_cast-lowest
overflow_cast-lowest c = omega (arith, trailing_le 64 c.loop-left.left)

pub shape_of-findings-then-table-lowest : goal.shape_of-findings-then-table-lowest
shape_of-findings-then-table-lowest c = c.loop-left.invariant.length_is

pub offset_bounds-findings-n : goal.offset_bounds-findings-n
offset_bounds-findings-n c = omega (arith, bit_room c.loop-left.invariant c.requires (omega arith))

pub overflow_shl-left : goal.overflow_shl-left
overflow_shl-left c = omega (arith, c.requires)

pub shape_of-findings : goal.shape_of-findings
shape_of-findings c = c.loop-left.invariant.length_is
