use mathlib.Core.Path.{◌∙◌, sym}
use mathlib.Core.Bool.{true, ◌&&◌}
use mathlib.Core.List.{[], ◌∷◌}
use Rattle.text.specs.Ascii.{ascii}
use Rattle.text.proofs.WordLaws.{other_length}
use Rattle.text.proofs.RunLaws.{in_runs, capitals, digits, hashes}
use Rattle.ident.proofs.persons.concat_shaped.Goals as goal

pub returns-then-s-ne20 : goal.returns-then-s-ne20
returns-then-s-ne20 c = other_length (ascii "uudddddddduhhhhuhhhh") c.args.s.now c.if-s-ne20.true

pub returns : goal.returns
returns c = (λ i. c.all_within.ensures i && c.all_within-2.ensures i && c.all_within-3.ensures i && c.all_within-4.ensures i && c.all_within-5.ensures i && c.all_within-6.ensures i) ∙ sym (in_runs true 0 (capitals 2 ∷ digits 8 ∷ capitals 1 ∷ hashes 4 ∷ capitals 1 ∷ hashes 4 ∷ []) c.args.s.now c.if-s-ne20.false)
