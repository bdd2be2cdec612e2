use mathlib.Core.Path.{ap, ◌∙◌}
use mathlib.Core.Bool.{not, ◌&&◌, ◌||◌}
use lib.Dec.{eqb}
use Rattle.summary.specs.Judged.{names, of_no_entity}
use Rattle.summary.proofs.NameLaws.{form_of_1, form_of_4}
use Rattle.summary.proofs.of_none.Goals as goal

pub returns : goal.returns
unfolding of_no_entity
returns c = λ i. (not (eqb c.args.answer 0) && not (eqb c.args.answer 11)) || (c.names_code.ensures ∙ ap (names c.args.words) form_of_1) i || (c.names_code-2.ensures ∙ ap (names c.args.words) form_of_4) i
