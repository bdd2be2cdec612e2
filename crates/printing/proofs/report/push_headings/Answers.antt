use Rattle.printing.proofs.ReportLaws.{headings_kept}
use Rattle.printing.proofs.report.push_headings.Goals as goal

pub returns : goal.returns
returns g c =
    headings_kept c.args.r.now g.row.N c.args.out.now (rw c.from.ensures at c.push_spaced.ensures) (rw c.from-2.ensures at c.push_spaced-2.ensures)
    (rw c.from-3.ensures at c.push_spaced-3.ensures) (rw c.from-4.ensures at c.push_spaced-4.ensures) (rw c.from-5.ensures at c.push_spaced-5.ensures)
