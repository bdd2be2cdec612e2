use Rattle.printing.proofs.OrderLaws.{told_in_order}
use Rattle.printing.proofs.push_told.Goals as goal

pub returns : goal.returns
returns g c =
    told_in_order c.args.number c.args.answer c.args.count g.row.N c.args.out.now c.push_number.ensures (rw c.from.ensures at c.push_spaced.ensures)
    (rw c.from-2.ensures at c.push_spaced-2.ensures)
