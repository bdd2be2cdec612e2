use Rattle.printing.proofs.LentLaws.{told_kept, answer_kept}
use Rattle.printing.proofs.lent.keep_answer.Goals as goal

pub returns : goal.returns
returns c =
    answer_kept c.args.number c.args.answer c.args.count c.args.codes.now
    (told_kept c.keep_all-told.ensures c.new-begun.ensures c.as_slice.ensures c.args.number c.args.answer c.args.count c.push_told.ensures)
    c.keep_codes-coded.ensures c.keep.ensures
