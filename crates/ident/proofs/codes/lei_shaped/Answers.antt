use mathlib.Core.Path.{◌∙◌, sym}
use mathlib.Core.Bool.{true, ◌&&◌}
use mathlib.Core.List.{[], ◌∷◌}
use Rattle.text.specs.Ascii.{ascii}
use Rattle.text.proofs.WordLaws.{other_length}
use Rattle.text.proofs.RunLaws.{in_runs, codes, digits}
use Rattle.ident.proofs.codes.lei_shaped.Goals as goal

pub returns-then-s-ne20 : goal.returns-then-s-ne20
returns-then-s-ne20 c = other_length (ascii "nnnnnnnnnnnnnnnnnndd") c.args.s.now c.if-s-ne20.true

pub returns : goal.returns
returns c = (λ i. c.all_within.ensures i && c.all_within-2.ensures i) ∙ sym (in_runs true 0 (codes 18 ∷ digits 2 ∷ []) c.args.s.now c.if-s-ne20.false)
