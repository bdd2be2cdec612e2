use Rattle.printing.proofs.ReportLaws.{counted_none, counted_one}
use Rattle.printing.proofs.report.push_counted.Goals as goal

pub returns-then-count-eq0 : goal.returns-then-count-eq0
returns-then-count-eq0 g c = counted_none g.row.N c.args.out.now c.args.code c.args.count c.if-count-eq0.true

pub returns : goal.returns
returns g c =
    counted_one g.row.N c.args.out.now c.args.code c.args.count c.if-count-eq0.false (rw c.from.ensures at c.push_spaced.ensures) c.push.ensures
    (rw c.from-2.ensures at c.push_number.ensures)
