use Rattle.printing.proofs.DecimalLaws.{spaced_one}
use Rattle.printing.proofs.push_spaced.Goals as goal

pub returns : goal.returns
returns g c = spaced_one g.row.N c.args.out.now c.args.n c.push.ensures c.push_number.ensures
