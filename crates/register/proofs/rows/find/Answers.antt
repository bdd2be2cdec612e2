use mathlib.Core.Path.{◌≡◌, refl, sym, ◌∙◌, ap}
use mathlib.Core.Logic.{inl}
use Prim.Native.Nat.{ℕ, ◌+◌, ◌*◌}
use lib.ListN.{length, take}
use Rattle.text.specs.Word.{starts_with}
use Rattle.text.proofs.LoadLaws.{next_behind}
use Rattle.register.proofs.WidthLaws.{told_framed, told_none, product_small}
use Rattle.register.proofs.RowLaws.{search_start, search_known, search_rowed, search_behind, search_small, search_hit, search_on, search_next, search_end, first_unframed}
use borrow.Author.Rules.{rules}
use native.Mathlib.Omega.{arith}
use Rattle.register.proofs.rows.find.Goals as goal

pub nonzero_div-result : goal.nonzero_div-result
nonzero_div-result c = (search_rowed c.loop-at.invariant c.word_place-place.ensures).nonzero

pub returns-then-width-eq0 : goal.returns-then-width-eq0
returns-then-width-eq0 c = first_unframed _ _ (told_none c.args.register.now c.requires c.if-width-eq0.true)

pub overflow_mul-used : goal.overflow_mul-used
overflow_mul-used c = omega (arith, product_small c.args.register.now c.requires c.used.result (omega arith))

pub overflow_add-used : goal.overflow_add-used
overflow_add-used c = omega (arith, product_small c.args.register.now c.requires c.used.result (omega arith))

pub word-asked-requires : goal.word-asked-requires
word-asked-requires c = let l : length c.args.pair.now ≡ 73 = search rules in (inl refl, omega (arith, c.word_place-place.ensures))

pub loop-at-init : goal.loop-at-init
loop-at-init c = let l : length c.args.pair.now ≡ 73 = search rules in
    search_start c.requires (told_framed c.args.register.now c.requires c.if-width-eq0.false) l
    (c.head-rows.ensures ∙ ap (λ (n : ℕ). take (9 + n * c.args.width) c.args.register.now) c.used.ensures)

pub overflow_sub-result : goal.overflow_sub-result
overflow_sub-result c = search_behind c.loop-at.invariant

pub returns-then-begins_with : goal.returns-then-begins_with
returns-then-begins_with c = search_hit c.loop-at.invariant (omega arith) (ap (starts_with c.args.pair.now) (sym c.rest.ensures) ∙ sym c.begins_with.ensures ∙ c.if-begins_with.true)

pub overflow_add-at : goal.overflow_add-at
overflow_add-at c = omega (arith, search_small c.loop-at.invariant (omega arith))

pub next_with-at-requires : goal.next_with-at-requires
next_with-at-requires c = (search_known c.loop-at.invariant, (search_rowed c.loop-at.invariant c.word_place-place.ensures, search_small c.loop-at.invariant (omega arith)))

pub loop-at-smaller : goal.loop-at-smaller
loop-at-smaller c = let rowed = search_rowed c.loop-at.invariant c.word_place-place.ensures in
    omega (arith, rowed.nonzero, c.next_with-at.ensures, c.loop-at-test.true, next_behind rowed c.word-asked.result c.head-rows.result.now (c.loop-at.at + c.args.width))

pub loop-at-preserved : goal.loop-at-preserved
loop-at-preserved c = search_next
    (search_on c.loop-at.invariant (omega arith) (ap (starts_with c.args.pair.now) (sym c.rest.ensures) ∙ sym c.begins_with.ensures ∙ c.if-begins_with.false))
    (search_rowed c.loop-at.invariant c.word_place-place.ensures)
    c.word_place-place.ensures
    c.word-asked.ensures
    c.next_with-at.ensures

pub returns : goal.returns
returns c = search_end c.loop-at.invariant (omega arith)
