use mathlib.Core.Path.{◌∙◌, sym, ap}
use mathlib.Core.Bool.{false, cond, not}
use mathlib.Core.List.{[], ◌∷◌}
use lib.Dec.{eqb}
use Rattle.text.specs.Class.{run_of}
use Rattle.text.specs.declared.classes.Class.TheVariants.{Capital, Alphanumeric, Printable}
use Rattle.text.specs.Word.{blank}
use Rattle.utf8.specs.Abnf.{points_within}
use Rattle.ident.specs.Codes.{isin_right}
use Rattle.baskets.specs.Underlying.{underlying_of, is_underlying}
use Rattle.amount.specs.Decimal.{is_decimal}
use Rattle.amount.specs.Price.{price_of, price_kind}
use Rattle.forms.specs.declared.tables.Form.TheVariants.{SecondCurrency}
use Rattle.forms.specs.Forms.{word, holds, terms_by, form_of}
use Rattle.forms.specs.Findings.{form_finding}
use Rattle.forms.specs.Read.{read_of}
use Rattle.forms.proofs.new_cells.instrument.Goals as goal

pub is_terms-requires : goal.is_terms-requires
unfolding read_of
is_terms-requires c = (λ j. (c.args.line.now.told j).underlying.kind) ∙ ap (λ s. (underlying_of s).kind) (sym c.cell-c47.ensures)

pub returns : goal.returns
unfolding form_finding form_of holds read_of
returns c = let read = c.args.line.now.told in
    λ k. (c.optional.ensures ∙ (λ i. cond (blank (c.cell-c40.ensures i)) false (not ((c.run_of.ensures ∙ ap (run_of Alphanumeric 1 35) c.cell-c40.ensures) i)))) k
    ∷ (c.optional-2.ensures ∙ (λ i. cond (blank (c.cell-c41.ensures i)) false (not ((c.isin_right.ensures ∙ ap (isin_right) c.cell-c41.ensures) i)))) k
    ∷ (c.optional-3.ensures ∙ (λ i. cond (blank (c.cell-c42.ensures i)) false (not ((c.points_within.ensures ∙ ap (points_within 350) c.cell-c42.ensures) i)))) k
    ∷ (c.optional-4.ensures ∙ (λ i. cond (blank (c.cell-c43.ensures i)) false (not ((c.run_of-2.ensures ∙ ap (run_of Capital 6 6) c.cell-c43.ensures) i)))) k
    ∷ (c.optional-5.ensures ∙ (λ i. cond (blank (c.cell-c44.ensures i)) false (not ((c.run_of-3.ensures ∙ ap (run_of Capital 3 3) c.cell-c44.ensures) i)))) k
    ∷ (c.optional-6.ensures ∙ (λ i. cond (blank (c.cell-c45.ensures i)) false (not ((c.is_second_currency.ensures ∙ ap (holds SecondCurrency) c.cell-c45.ensures) i)))) k
    ∷ (c.optional-7.ensures ∙ (λ i. cond (blank (c.cell-c46.ensures i)) false (not ((c.is_decimal.ensures ∙ ap (is_decimal 18 17 19) c.cell-c46.ensures) i)))) k
    ∷ (c.optional-8.ensures ∙ (λ i. cond (blank (c.cell-c47.ensures i)) false (not ((c.is_underlying.ensures ∙ (λ j. is_underlying (read j).underlying.kind)) i)))) k
    ∷ (c.optional-9.ensures ∙ (λ i. cond (blank (c.cell-c48.ensures i)) false (not ((c.run_of-4.ensures ∙ ap (run_of Printable 1 400) c.cell-c48.ensures) i)))) k
    ∷ (c.optional-10.ensures ∙ (λ i. cond (blank (c.cell-c49.ensures i)) false (not ((c.is_terms.ensures ∙ (λ j. holds (terms_by (c.cell-c47.ensures j)) (c.cell-c49.ensures j))) i)))) k
    ∷ (c.optional-11.ensures ∙ (λ i. cond (blank (c.cell-c50.ensures i)) false (not ((c.one_of.ensures ∙ ap (word "PUTOCALLOTHR") c.cell-c50.ensures) i)))) k
    ∷ (c.optional-12.ensures ∙ (λ i. cond (blank (c.cell-c51.ensures i)) false (not (not (eqb ((c.price_kind.ensures ∙ ap price_kind (c.parse_price.ensures ∙ ap price_of c.cell-c51.ensures)) i) 0))))) k
    ∷ (c.optional-13.ensures ∙ (λ i. cond (blank (c.cell-c52.ensures i)) false (not ((c.run_of-5.ensures ∙ ap (run_of Capital 3 3) c.cell-c52.ensures) i)))) k
    ∷ []
