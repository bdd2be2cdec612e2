use mathlib.Core.Path.{◌∙◌, sym}
use mathlib.Core.Bool.{true, ◌&&◌}
use mathlib.Core.List.{[], ◌∷◌}
use Rattle.text.specs.Ascii.{ascii}
use Rattle.text.proofs.WordLaws.{other_length}
use Rattle.text.proofs.RunLaws.{in_runs, capitals, codes, digits}
use Rattle.ident.proofs.isins.isin_shaped.Goals as goal

pub returns-then-s-ne12 : goal.returns-then-s-ne12
returns-then-s-ne12 c = other_length (ascii "uunnnnnnnnnd") c.args.s.now c.if-s-ne12.true

pub returns : goal.returns
returns c = (λ i. c.all_within.ensures i && c.all_within-2.ensures i && c.all_within-3.ensures i) ∙ sym (in_runs true 0 (capitals 2 ∷ codes 9 ∷ digits 1 ∷ []) c.args.s.now c.if-s-ne12.false)
