use Rattle.printing.proofs.RowLaws.{common_row, free_row, firm_row}
use Rattle.printing.proofs.report.push_row.Goals as goal

pub returns-then-i-ge-RECORD_COUNT : goal.returns-then-i-ge-RECORD_COUNT
returns-then-i-ge-RECORD_COUNT g c = common_row c.args.table.now c.args.i c.record_at-r.ensures c.if-i-ge-RECORD_COUNT.true c.push_record.ensures

pub returns-then-r-eq0 : goal.returns-then-r-eq0
returns-then-r-eq0 g c = free_row c.args.table.now c.args.i c.record_at-r.ensures c.if-i-ge-RECORD_COUNT.false c.if-r-eq0.true

pub returns : goal.returns
returns g c = firm_row c.args.table.now c.args.i c.record_at-r.ensures c.if-i-ge-RECORD_COUNT.false c.if-r-eq0.false c.push_record-2.ensures
