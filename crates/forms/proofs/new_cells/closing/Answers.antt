use mathlib.Core.Path.{◌∙◌, ap}
use mathlib.Core.Bool.{true, false, cond, not}
use mathlib.Core.List.{[], ◌∷◌}
use Rattle.text.specs.Class.{run_of}
use Rattle.text.specs.declared.classes.Class.TheVariants.{Capital}
use Rattle.text.specs.Word.{blank}
use Rattle.calendar.specs.Dates.{is_date}
use Rattle.ident.specs.Party.{is_malformed}
use Rattle.forms.specs.declared.tables.Form.TheVariants.{Truth}
use Rattle.forms.specs.declared.read.Read.{Read}
use Rattle.forms.specs.Forms.{word, holds, form_of}
use Rattle.forms.specs.Findings.{form_finding}
use Rattle.forms.specs.Read.{read_of}
use Rattle.forms.proofs.new_cells.closing.Goals as goal

pub returns : goal.returns
unfolding form_finding form_of holds read_of
returns c = let read = c.args.line.now.told in
    λ k. (c.optional.ensures ∙ (λ i. cond (blank (c.cell-c53.ensures i)) false (not ((c.one_of.ensures ∙ ap (word "EUROAMERASIABERMOTHR") c.cell-c53.ensures) i)))) k
    ∷ (c.optional-2.ensures ∙ (λ i. cond (blank (c.cell-c54.ensures i)) false (not ((c.is_date.ensures ∙ ap (λ (r : Read). is_date r.date54) read) i)))) k
    ∷ (c.optional-3.ensures ∙ (λ i. cond (blank (c.cell-c55.ensures i)) false (not ((c.is_date-2.ensures ∙ ap (λ (r : Read). is_date r.date55) read) i)))) k
    ∷ (c.optional-4.ensures ∙ (λ i. cond (blank (c.cell-c56.ensures i)) false (not ((c.one_of-2.ensures ∙ ap (word "PHYSCASHOPTL") c.cell-c56.ensures) i)))) k
    ∷ (c.optional-5.ensures ∙ (λ i. cond (blank (c.cell-c57.ensures i)) false (not (not ((c.is_malformed.ensures ∙ ap (λ (r : Read). is_malformed r.investor.identifier) read) i))))) k
    ∷ (c.optional-6.ensures ∙ (λ i. cond (blank (c.cell-c58.ensures i)) false (not ((c.run_of.ensures ∙ ap (run_of Capital 2 2) c.cell-c58.ensures) i)))) k
    ∷ (c.needed.ensures ∙ (λ i. cond (blank (c.cell-c59.ensures i)) true (not (not ((c.is_malformed-2.ensures ∙ ap (λ (r : Read). is_malformed r.executor.identifier) read) i))))) k
    ∷ (c.optional-7.ensures ∙ (λ i. cond (blank (c.cell-c60.ensures i)) false (not ((c.run_of-2.ensures ∙ ap (run_of Capital 2 2) c.cell-c60.ensures) i)))) k
    ∷ (c.optional-8.ensures ∙ (λ i. cond (blank (c.cell-c61.ensures i)) false (not ((c.one_of-3.ensures ∙ ap (word "RFPTNLIQOILQPRICSIZEILQD") c.cell-c61.ensures) i)))) k
    ∷ (c.optional-9.ensures ∙ (λ i. cond (blank (c.cell-c62.ensures i)) false (not ((c.one_of-4.ensures ∙ ap (word "SESHSSEXSELLUNDI") c.cell-c62.ensures) i)))) k
    ∷ (c.optional-10.ensures ∙ (λ i. cond (blank (c.cell-c63.ensures i)) false (not ((c.one_of-5.ensures ∙ ap (word "BENCACTXLRGSILQDSIZECANCAMNDSDIVPRICDUPLTNCPTPACXFPH") c.cell-c63.ensures) i)))) k
    ∷ (c.optional-11.ensures ∙ (λ i. cond (blank (c.cell-c64.ensures i)) false (not ((c.is_truth.ensures ∙ ap (holds Truth) c.cell-c64.ensures) i)))) k
    ∷ (c.needed-2.ensures ∙ (λ i. cond (blank (c.cell-c65.ensures i)) true (not ((c.is_truth-2.ensures ∙ ap (holds Truth) c.cell-c65.ensures) i)))) k
    ∷ []
