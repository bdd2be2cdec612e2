use mathlib.Core.Path.{◌∙◌, ap}
use mathlib.Core.Bool.{true, false, cond, not}
use mathlib.Core.List.{[], ◌∷◌}
use lib.Dec.{eqb}
use Rattle.text.specs.Class.{run_of}
use Rattle.text.specs.declared.classes.Class.TheVariants.{Capital}
use Rattle.text.specs.Word.{blank}
use Rattle.calendar.specs.Moments.{is_when}
use Rattle.ident.specs.Codes.{lei_shaped, mic_shaped}
use Rattle.amount.specs.Decimal.{is_decimal}
use Rattle.amount.specs.Signed.{signed_of, signed_kind}
use Rattle.amount.specs.Price.{price_kind}
use Rattle.amount.specs.Quantity.{quantity_kind}
use Rattle.forms.specs.declared.read.Read.{Read}
use Rattle.forms.specs.Forms.{word, holds, form_of}
use Rattle.forms.specs.Findings.{form_finding}
use Rattle.forms.specs.Read.{read_of}
use Rattle.forms.proofs.new_cells.trade.Goals as goal

pub returns : goal.returns
unfolding form_finding form_of holds read_of
returns c = let read = c.args.line.now.told in
    λ k. (c.optional.ensures ∙ (λ i. cond (blank (c.cell-c27.ensures i)) false (not ((c.lei_shaped.ensures ∙ ap (lei_shaped) c.cell-c27.ensures) i)))) k
    ∷ (c.needed.ensures ∙ (λ i. cond (blank (c.cell-c28.ensures i)) true (not ((c.is_when.ensures ∙ ap (λ (r : Read). is_when r.moment) read) i)))) k
    ∷ (c.needed-2.ensures ∙ (λ i. cond (blank (c.cell-c29.ensures i)) true (not ((c.one_of.ensures ∙ ap (word "DEALMTCHAOTC") c.cell-c29.ensures) i)))) k
    ∷ (c.needed-3.ensures ∙ (λ i. cond (blank (c.cell-c30.ensures i)) true (not (not (eqb ((c.quantity_kind.ensures ∙ ap (λ (r : Read). quantity_kind r.quantity) read) i) 0))))) k
    ∷ (c.optional-2.ensures ∙ (λ i. cond (blank (c.cell-c31.ensures i)) false (not ((c.run_of.ensures ∙ ap (run_of Capital 3 3) c.cell-c31.ensures) i)))) k
    ∷ (c.optional-3.ensures ∙ (λ i. cond (blank (c.cell-c32.ensures i)) false (not ((c.one_of-2.ensures ∙ ap (word "INCRDECR") c.cell-c32.ensures) i)))) k
    ∷ (c.needed-4.ensures ∙ (λ i. cond (blank (c.cell-c33.ensures i)) true (not (not (eqb ((c.price_kind.ensures ∙ ap (λ (r : Read). price_kind r.price) read) i) 0))))) k
    ∷ (c.optional-4.ensures ∙ (λ i. cond (blank (c.cell-c34.ensures i)) false (not ((c.run_of-2.ensures ∙ ap (run_of Capital 3 3) c.cell-c34.ensures) i)))) k
    ∷ (c.optional-5.ensures ∙ (λ i. cond (blank (c.cell-c35.ensures i)) false (not ((c.is_decimal.ensures ∙ ap (is_decimal 18 5 19) c.cell-c35.ensures) i)))) k
    ∷ (c.needed-5.ensures ∙ (λ i. cond (blank (c.cell-c36.ensures i)) true (not ((c.mic_shaped.ensures ∙ ap (mic_shaped) c.cell-c36.ensures) i)))) k
    ∷ (c.optional-6.ensures ∙ (λ i. cond (blank (c.cell-c37.ensures i)) false (not ((c.run_of-3.ensures ∙ ap (run_of Capital 2 2) c.cell-c37.ensures) i)))) k
    ∷ (c.optional-7.ensures ∙ (λ i. cond (blank (c.cell-c38.ensures i)) false (not (not (eqb ((c.signed_kind.ensures ∙ ap signed_kind (c.parse_signed.ensures ∙ ap (signed_of 5) c.cell-c38.ensures)) i) 0))))) k
    ∷ (c.optional-8.ensures ∙ (λ i. cond (blank (c.cell-c39.ensures i)) false (not ((c.run_of-4.ensures ∙ ap (run_of Capital 3 3) c.cell-c39.ensures) i)))) k
    ∷ []
