use Rattle.std.proofs.Common.{arith, ◌∙◌}
use Rattle.lists.proofs.FrameLaws.{framed_short, framed_by}
use Rattle.lists.proofs.frame.framed_as.Goals as goal

pub returns-then-list-lt9 : goal.returns-then-list-lt9
returns-then-list-lt9 g c = framed_short g.L.List.mark c.args.list.now c.if-list-lt9.true

pub returns : goal.returns
returns g c = framed_by
    g.L.List.mark
    c.args.list.now
    (record { small = λ i. omega (arith, c.type_inv.list i) })
    (omega arith)
    c.word.ensures
    (c.OPENING.ensures ∙ g.met.L.List.opens)
    c.byte_at.ensures
    c.le32.ensures
    (c.WIDTH.ensures ∙ g.met.L.List.width_is)
