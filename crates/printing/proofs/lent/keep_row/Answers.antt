use Rattle.printing.proofs.LentLaws.{line_put}
use Rattle.printing.proofs.lent.keep_row.Goals as goal

pub returns : goal.returns
returns c = line_put c.put_row.ensures c.as_slice.ensures c.keep_all.ensures
