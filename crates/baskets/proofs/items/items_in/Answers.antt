use Rattle.std.proofs.Common.{arith, ◌≡◌, ◌-◌, ◌+◌, ◌∙◌}
use borrow.Author.Tests.{ltb-true}
use Rattle.text.proofs.Bools.{and_left}
use Rattle.baskets.proofs.BasketLaws.{items_out, items_unfit, item_ends, item_small, items_end, items_stop, items_cut, comma_room, items_on}
use Rattle.baskets.proofs.items.items_in.Goals.{in_default-via-then-rest-lt1, in_default-via-else-rest-lt1+in_default-1}
use Rattle.baskets.proofs.items.items_in.Goals as goal

pub returns-then-not-item-least : goal.returns-then-not-item-least
returns-then-not-item-least c = c.broken_off.ensures ∙ items_unfit c.loop.invariant c.rest-text.ensures c.item_in-item.ensures c.if-not-item-least.true

pub overflow_add-at : goal.overflow_add-at
overflow_add-at c = omega (arith, item_ends c.loop.invariant c.rest-text.ensures c.item_in-item.ensures (and_left _ _ c.if-not-item-least.false))

pub returns-in-125 : goal.returns-in-125
returns-in-125 c = items_end c.loop.invariant c.rest-text.ensures c.item_in-item.ensures c.if-not-item-least.false c.rest.ensures (omega arith) (omega arith)

pub overflow_add-at-in-44 : goal.overflow_add-at-in-44
overflow_add-at-in-44 c = omega (arith, comma_room c.loop.invariant c.rest-text.ensures c.item_in-item.ensures c.if-not-item-least.false c.rest.ensures c.in-44.len_at_least c.in_front.ensures)

pub overflow_add-at-in-44-2 : goal.overflow_add-at-in-44-2
overflow_add-at-in-44-2 c = omega (arith, comma_room c.loop.invariant c.rest-text.ensures c.item_in-item.ensures c.if-not-item-least.false c.rest.ensures c.in-44.len_at_least c.in_front.ensures)

pub returns-in_default : goal.returns-in_default
returns-in_default c =
    c.broken_off-in_default.ensures
    ∙ elim c.in_default.branch [
      | in_default-via-then-rest-lt1 w ↦ items_cut c.loop.invariant c.rest-text.ensures c.item_in-item.ensures c.if-not-item-least.false c.rest.ensures (omega arith) (omega (arith, ltb-true))
      | in_default-via-else-rest-lt1+in_default-1 w ↦ items_stop c.loop.invariant c.rest-text.ensures c.item_in-item.ensures c.if-not-item-least.false c.rest.ensures (omega arith) (λ e. grind arith) (λ e. grind arith)
    ]

pub overflow_add-least : goal.overflow_add-least
overflow_add-least c = omega (arith, item_small c.loop.invariant c.rest-text.ensures c.item_in-item.ensures (and_left _ _ c.if-not-item-least.false))

pub loop-preserved : goal.loop-preserved
loop-preserved c =
    let one_less : 16 - c.loop.counter - 1 ≡ 16 - (c.loop.counter + 1) = omega arith in
    rw one_less at (items_on c.loop.invariant c.rest-text.ensures c.item_in-item.ensures c.if-not-item-least.false c.rest.ensures c.in-44.len_at_least c.in_front.ensures (omega arith) (omega arith))

pub returns : goal.returns
returns c = c.broken_off-2.ensures ∙ items_out c.loop.invariant (λ h. omega arith)
