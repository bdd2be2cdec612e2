use mathlib.Core.Path.{◌≡◌, ◌∙◌, refl, ap}
use mathlib.Core.Bool.{cond}
use native.Mathlib.Omega.{arith}
use Rattle.std.proofs.lemmas.Result.{err_from_is_err_and}
use Rattle.text.specs.Ascii.{ascii}
use Rattle.text.specs.Word.{same}
use Rattle.cells.specs.Cells.{bars_of}
use Rattle.cells.proofs.Tables.{same_line, split_not}
use Rattle.register.specs.Rows.{first_row, standing_at}
use Rattle.register.specs.Written.{set_live, set_cancelled}
use Rattle.register.proofs.RowLaws.{standing_found}
use Rattle.facts.specs.Words.{is_absent}
use Rattle.facts.specs.Rules.{pair_stands}
use Rattle.judge.specs.Outcome.{pair_of, written}
use Rattle.judge.proofs.Ways.{number_some, early_way, ten_way, found_way, full_way, clean_way}
use Rattle.judge.proofs.judge_line.Goals as goal

pub returns-in_err-check_call : goal.returns-in_err-check_call
returns-in_err-check_call c =
    let p = err_from_is_err_and c.from_residual.result c.from_residual.ensures.1 in
    rw (p.1, p.2) (early_way _ _ (c.in_err-check_call.ensures c.args.register.now c.row_width-width.ensures) (number_some _) refl)

pub returns-in_default : goal.returns-in_default
returns-in_default c =
    let none = rw c.in_default.is at c.split.ensures in
    ten_way _ _ (c.in_ok-check_call.ensures c.args.register.now c.row_width-width.ensures) refl (split_not c.args.line.now none) refl

pub returns-then-verdict-ne0 : goal.returns-then-verdict-ne0
unfolding pair_stands
returns-then-verdict-ne0 c =
    let l = c.args.line.now in
    let R = c.args.register.now in
    let s = c.in-Some.split in
    let e : s.line.now ≡ l = same_line l s (rw c.in-Some.is at c.split.ensures) in
    let whole : bars_of l ≡ 64 = rw e at s.tabled.count in
    let pair : c.pair_of-pair.result ≡ pair_of l = rw e at c.pair_of-pair.ensures in
    let found : c.find-found.result ≡ first_row R (pair_of l) = c.find-found.ensures ∙ ap (first_row R) pair in
    let stands : c.standing_at-standing.result ≡ pair_stands R l = c.standing_at-standing.ensures ∙ ap (standing_at R) found ∙ standing_found R (pair_of l) in
    let flags = rw e at (c.flags_of-flags.ensures R (rw e stands)) in
    let early = c.in_ok-check_call.ensures R c.row_width-width.ensures in
    found_way _ _ early refl whole flags c.judged-verdict.ensures (λ z. omega arith) c.list_by_words.ensures

pub returns-then-new-is_absent : goal.returns-then-new-is_absent
unfolding pair_stands
returns-then-new-is_absent c =
    let l = c.args.line.now in
    let R = c.args.register.now in
    let s = c.in-Some.split in
    let e : s.line.now ≡ l = same_line l s (rw c.in-Some.is at c.split.ensures) in
    let whole : bars_of l ≡ 64 = rw e at s.tabled.count in
    let pair : c.pair_of-pair.result ≡ pair_of l = rw e at c.pair_of-pair.ensures in
    let found : c.find-found.result ≡ first_row R (pair_of l) = c.find-found.ensures ∙ ap (first_row R) pair in
    let stands : c.standing_at-standing.result ≡ pair_stands R l = c.standing_at-standing.ensures ∙ ap (standing_at R) found ∙ standing_found R (pair_of l) in
    let flags = rw e at (c.flags_of-flags.ensures R (rw e stands)) in
    let early = c.in_ok-check_call.ensures R c.row_width-width.ensures in
    let new = rw e at (c.same-new.ensures ∙ ap (same (ascii "NEW")) c.cell.ensures) in
    let absent = c.is_absent.ensures ∙ ap is_absent stands in
    full_way _ _ early refl whole flags c.judged-verdict.ensures (omega arith) new absent c.full.ensures c.if-new-is_absent.true refl

pub returns : goal.returns
unfolding pair_stands written
returns c =
    let l = c.args.line.now in
    let R = c.args.register.now in
    let s = c.in-Some.split in
    let e : s.line.now ≡ l = same_line l s (rw c.in-Some.is at c.split.ensures) in
    let whole : bars_of l ≡ 64 = rw e at s.tabled.count in
    let pair : c.pair_of-pair.result ≡ pair_of l = rw e at c.pair_of-pair.ensures in
    let found : c.find-found.result ≡ first_row R (pair_of l) = c.find-found.ensures ∙ ap (first_row R) pair in
    let stands : c.standing_at-standing.result ≡ pair_stands R l = c.standing_at-standing.ensures ∙ ap (standing_at R) found ∙ standing_found R (pair_of l) in
    let flags = rw e at (c.flags_of-flags.ensures R (rw e stands)) in
    let early = c.in_ok-check_call.ensures R c.row_width-width.ensures in
    let new = rw e at (c.same-new.ensures ∙ ap (same (ascii "NEW")) c.cell.ensures) in
    let absent = c.is_absent.ensures ∙ ap is_absent stands in
    let day = c.args.submitted.day in
    clean_way _ _ early refl whole flags c.judged-verdict.ensures (omega arith) new absent c.full.ensures c.if-new-is_absent.false
    (c.settle.ensures ∙ (λ j. cond (new j) (set_live R (found j) (pair j) day) (set_cancelled R (found j) day)))
