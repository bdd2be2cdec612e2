use Rattle.buffer.proofs.KeptLaws.{keep_in, keep_out}
use Rattle.buffer.proofs.keep.Goals as goal

pub returns-then-kept-buffer : goal.returns-then-kept-buffer
returns-then-kept-buffer c = keep_in _ _ _ c.if-kept-buffer.true

pub returns : goal.returns
returns c = keep_out _ _ _ c.if-kept-buffer.false
