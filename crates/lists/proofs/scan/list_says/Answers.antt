use Rattle.std.proofs.Common.{sym, ◌∙◌, arith, ◌+◌}
use Rattle.text.proofs.LoadLaws.{next_behind}
use Rattle.lists.proofs.PassLaws.{worded_as, read_none, read_past, read_on, read_next, read_all, read_end}
use Rattle.lists.proofs.scan.list_says.Goals as goal
use Rattle.lists.proofs.scan.list_says.Goals.{then-begins_with+else-complete, else-begins_with}

pub returns-then-key-KEY : goal.returns-then-key-KEY
returns-then-key-KEY g c = read_none g.L.List.mark c.args.list.now c.args.key.now c.args.day (λ e. c.if-key-KEY.true (e ∙ sym (c.KEY.ensures ∙ g.met.L.List.key_is)))

pub returns-then-complete : goal.returns-then-complete
returns-then-complete g c = read_all (read_on c.loop-at.invariant (omega arith) (sym c.begins_with.ensures ∙ c.if-begins_with.true) c.says.ensures c.joined-found.ensures) (sym c.complete.ensures ∙ c.if-complete.true)

pub loop-at-smaller : goal.loop-at-smaller
loop-at-smaller g c =
    let w = worded_as g.met.L.List.is_worded g.met.L.List.key_is c.WIDTH-width.ensures c.PLACE-place.ensures c.SIZE-size.ensures in
    omega (arith, w.rowed.nonzero, c.next_row-at.ensures, next_behind w.rowed c.word-asked.result c.args.list.now (c.loop-at.at + c.WIDTH-width.result))

pub loop-at-preserved : goal.loop-at-preserved
loop-at-preserved g c = read_next
    (worded_as g.met.L.List.is_worded g.met.L.List.key_is c.WIDTH-width.ensures c.PLACE-place.ensures c.SIZE-size.ensures)
    (elim c.if-begins_with.branch [
      | then-begins_with+else-complete w ↦ read_on c.loop-at.invariant (omega arith) (sym c.begins_with.ensures ∙ w.if-begins_with.true) w.says.ensures (w.found-is ∙ w.joined-found.ensures)
      | else-begins_with w ↦ rw w.found-is (read_past c.loop-at.invariant (omega arith) (sym c.begins_with.ensures ∙ w.if-begins_with.false))
    ])
    c.word-asked.ensures
    c.next_row-at.ensures

pub returns : goal.returns
returns g c = read_end c.loop-at.invariant (omega arith)
