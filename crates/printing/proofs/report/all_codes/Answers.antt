use Rattle.printing.proofs.ReportLaws.{all_listed}
use mathlib.Core.Path.{◌∙◌}
use Rattle.printing.proofs.report.all_codes.Goals as goal

pub returns : goal.returns
returns c = c.list_by_words.ensures ∙ all_listed
