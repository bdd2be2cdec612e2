use mathlib.Core.Path.{◌∙◌, sym}
use mathlib.Core.Bool.{true}
use mathlib.Core.List.{[], ◌∷◌}
use Rattle.text.specs.Ascii.{ascii}
use Rattle.text.proofs.WordLaws.{other_length}
use Rattle.text.proofs.RunLaws.{in_runs, codes}
use Rattle.ident.proofs.codes.mic_shaped.Goals as goal

pub returns-then-s-ne4 : goal.returns-then-s-ne4
returns-then-s-ne4 c = other_length (ascii "nnnn") c.args.s.now c.if-s-ne4.true

pub returns : goal.returns
returns c = c.all_within.ensures ∙ sym (in_runs true 0 (codes 4 ∷ []) c.args.s.now c.if-s-ne4.false)
