use Rattle.std.proofs.Common.{◌∙◌, ap, arith}
use Rattle.checker.specs.Bare.{bare}
use Rattle.checker.proofs.LineEndLaws.{end_within}
use Rattle.checker.proofs.ProgressLaws.{advanced_all, advanced_line}
use Rattle.checker.proofs.progress.Progress.advance.Goals as goal

pub returns-then-end-chunk : goal.returns-then-end-chunk
returns-then-end-chunk c =
    advanced_all c.args.self.now.begun c.args.chunk.now c.args.self.now.carried c.line_end-end.ensures (rw c.head.ensures at c.push_all.ensures.keeps) c.push_all.ensures.within
    c.if-end-chunk.true c.clear.ensures

pub overflow_add-result : goal.overflow_add-result
overflow_add-result c = omega (arith, end_within c.args.chunk.now, c.line_end-end.ensures, c.if-end-chunk.false)

pub returns : goal.returns
returns c =
    advanced_line c.args.self.now.begun c.args.chunk.now c.args.self.now.carried c.line_end-end.ensures (rw c.head.ensures at c.push_all.ensures.keeps) c.push_all.ensures.within
    c.if-end-chunk.false c.clear-2.ensures (omega (arith, c.saturating_add-self.ensures)) (rw (c.bare.ensures ∙ ap bare c.as_slice.ensures) at c.tell.ensures)
