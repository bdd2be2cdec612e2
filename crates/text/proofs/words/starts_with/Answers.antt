use native.Mathlib.Omega.{arith}
use Rattle.text.proofs.WordLaws.{too_short, ended_start, ended_on, ended_off, ended_all}
use Rattle.text.proofs.words.starts_with.Goals as goal

pub returns-then-s-word : goal.returns-then-s-word
returns-then-s-word c = too_short c.args.word.now c.args.s.now (omega arith)

pub loop-i-init : goal.loop-i-init
loop-i-init c = ended_start (omega arith)

pub returns-then-s-i : goal.returns-then-s-i
returns-then-s-i c = ended_off c.loop-i.invariant (omega arith) c.if-s-i.true

pub loop-i-preserved : goal.loop-i-preserved
loop-i-preserved c = ended_on c.loop-i.invariant (omega arith) c.if-s-i.false

pub returns : goal.returns
returns c = ended_all c.loop-i.invariant (omega arith)
