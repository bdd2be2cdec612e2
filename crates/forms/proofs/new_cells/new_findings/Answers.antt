use mathlib.Core.Path.{◌∙◌}
use mathlib.Core.Bool.{false}
use mathlib.Core.List.{◌++◌}
use lib.ListN.{replicate}
use borrow.Rule.Slice.PartMut.{put_mid}
use Rattle.forms.proofs.ReadLaws.{all_new}
use Rattle.forms.proofs.new_cells.new_findings.Goals as goal

pub returns : goal.returns
returns c =
    (λ i. put_mid 52 13 (put_mid 39 13 (put_mid 26 13 (put_mid 13 13 ((c.copy_from_slice.ensures.after ∙ c.opening.ensures) i ++ replicate 52 false)
    ((c.copy_from_slice-2.ensures.after ∙ c.persons.ensures) i)) ((c.copy_from_slice-3.ensures.after ∙ c.trade.ensures) i)) ((c.copy_from_slice-4.ensures.after ∙ c.instrument.ensures) i))
    ((c.copy_from_slice-5.ensures.after ∙ c.closing.ensures) i))
    ∙ all_new _ c.requires
