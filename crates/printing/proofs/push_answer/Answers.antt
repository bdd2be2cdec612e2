use Rattle.printing.proofs.OrderLaws.{in_order}
use Rattle.printing.proofs.push_answer.Goals as goal

pub returns : goal.returns
returns g c =
    in_order c.args.number c.args.answer c.args.count c.args.codes.now g.row.N c.args.out.now c.push_told.ensures c.push_codes.ensures c.push.ensures
