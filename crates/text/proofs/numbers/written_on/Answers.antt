use native.Mathlib.Omega.{arith}
use lib.ListN.{get_or}
use Rattle.text.proofs.NumberLaws.{read_start, read_small, read_on, read_end, digit_small}
use Rattle.text.proofs.numbers.written_on.Goals as goal

pub loop-b-init : goal.loop-b-init
loop-b-init c = read_start c.requires.0 c.requires.1

pub overflow_mul-v : goal.overflow_mul-v
overflow_mul-v c = omega (arith, read_small c.loop-b.invariant (omega arith))

pub overflow_add-v : goal.overflow_add-v
overflow_add-v c = omega (arith, read_small c.loop-b.invariant (omega arith), digit_small (get_or c.args.s.now c.loop-b.b-index 0))

pub loop-b-preserved : goal.loop-b-preserved
loop-b-preserved c = rw (c.from.ensures, c.digit_of.ensures) (read_on c.loop-b.invariant (omega arith))

pub returns : goal.returns
returns c = read_end c.loop-b.invariant (omega arith)
