use Rattle.printing.proofs.ReportLaws.{record_put}
use Rattle.verdict.proofs.Promises.{code_count_lem}
use Rattle.verdict.specs.Codes.{code_count}
use mathlib.Core.Path.{◌≡◌, ◌∙◌, sym, ap}
use lib.ListN.{length}
use borrow.Author.Rules.{rules}
use Rattle.printing.proofs.report.push_record.Goals as goal

pub push_counts-requires : goal.push_counts-requires
push_counts-requires g c =
    let counts : length c.args.r.now.codes ≡ code_count = search rules in
    (search rules, ap length c.all_codes.ensures ∙ code_count_lem ∙ sym counts)

pub returns : goal.returns
returns g c =
    record_put c.args.name.now c.args.r.now g.row.N c.args.out.now c.requires c.all_codes.ensures c.push_all.ensures.keeps c.push_headings.ensures c.push_counts.ensures c.push.ensures
