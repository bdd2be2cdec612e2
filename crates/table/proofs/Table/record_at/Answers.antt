use Rattle.std.proofs.Common.{rules, arith, length, ◌≡◌, ◌∙◌, sym}
use Rattle.table.specs.Rows.{record_count, record_at, record_in}
use Rattle.table.proofs.Table.record_at.Goals as goal

pub returns : goal.returns
unfolding record_at record_in
returns c =
    let all : length c.args.self.now.records ≡ record_count = search rules in
    rw all at c.record_in.ensures
