-- A basket, item by item.
use mathlib.Core.Path.{◌≡◌, ◌∙◌, sym, ap}
use mathlib.Core.Bool.{Bool, true, false, ◌&&◌, and-true, and_assoc}
use mathlib.Core.List.{List}
use Prim.Native.Nat.{ℕ, suc, ◌+◌, ◌-◌, ◌≤◌, ◌<◌}
use native.Mathlib.Nat.{add-zero, zero-add}
use native.Mathlib.Omega.{arith}
use borrow.Author.Tests.{eq-eqb, ne_eqb}
use lib.Dec.{eqb, leb}
use lib.ListN.{length, get_or, take, drop, length-drop}
use lib.Seq.{take_all, drop-drop}
use Rattle.text.specs.Class.{range}
use Rattle.text.proofs.Bools.{and_left}
use Rattle.baskets.specs.declared.items.Holds.{Holds}
use Rattle.baskets.specs.declared.items.Item.{Item as ItemRead}
use Rattle.baskets.specs.declared.items.Part.{Part as PartRead}
use Rattle.baskets.specs.Items.{Item, Part, spaces_in, value_right, all_right, item_in, after_comma, fitting, items_in}
use Rattle.baskets.specs.Told.{item_told, part_told}
use Rattle.baskets.proofs.ItemLaws.{front_within, item_within, index_small, there_is, items_none, items_closed, items_broken, items_more, further}

-- what was read before a place, and what is told from there on
abbrev grown : Bool → ℕ → PartRead → PartRead
grown right at p = record { good = p.good; right = right && p.right; size = at + p.size }

-- the items before place `at` are good, and so many may follow, with indexes from `least` on
pub record ItemsSoFar (holds : Holds) (s : List ℕ) (at least : ℕ) (right : Bool) (more : ℕ) : Type 0 where
  pub within : at ≤ length s
  pub left : part_told holds (items_in holds 16 0 s) ≡ grown right at (part_told holds (items_in holds more least (drop at s)))

pub items_start : {holds : Holds} {s : List ℕ} → ItemsSoFar holds s 0 0 true 16
items_start {holds} {s} =
    let p : PartRead = part_told holds (items_in holds 16 0 s) in
    record { within = omega arith; left = λ j. record { good = p.good; right = p.right; size = sym (zero-add p.size) j } }

module _ {holds : Holds} {s : List ℕ} {at least : ℕ} {right : Bool} {more : ℕ} (so_far : ItemsSoFar holds s at least right more) where
  pub items_out : (0 < more → ⊥) → record { good = false; right = right; size = at } ≡ part_told holds (items_in holds 16 0 s)
  unfolding items_in all_right
  items_out h =
      let z : more ≡ 0 = omega (arith, h) in
      sym (so_far.left ∙ (λ j. grown right at (part_told holds (items_in holds (z j) least (drop at s)))) ∙ (λ j. record { good = false; right = and-true right j; size = add-zero at j }))

  -- the item at the place
  module _ {t : List ℕ} {item : ItemRead} (here : t ≡ drop at s) (read : item ≡ item_told holds (item_in holds t)) where
    abbrev i : Item
    i = item_in holds (drop at s)

    abbrev after : List ℕ
    after = drop i.size (drop at s)

    same : item ≡ item_told holds i
    same = read ∙ (λ j. item_told holds (item_in holds (here j)))

    index_is : item.index ≡ i.index
    index_is = ap (λ x. x.index) same

    size_is : item.size ≡ i.size
    size_is = ap (λ x. x.size) same

    fits : (item.good && leb least item.index) ≡ fitting i least
    fits = λ j. (same j).good && leb least (same j).index

    -- what is told, by what the items from here on come to
    by_rest : {p : Part} → items_in holds more least (drop at s) ≡ p → grown right at (part_told holds p) ≡ part_told holds (items_in holds 16 0 s)
    by_rest e = sym (so_far.left ∙ (λ j. grown right at (part_told holds (e j))))

    by_turn : 0 < more → {p : Part} → items_in holds (suc (more - 1)) least (drop at s) ≡ p → grown right at (part_told holds p) ≡ part_told holds (items_in holds 16 0 s)
    by_turn again e = let one_less : more ≡ suc (more - 1) = omega arith in by_rest ((λ j. items_in holds (one_less j) least (drop at s)) ∙ e)

    -- it is unfit, also where no more may follow
    pub items_unfit : (item.good && leb least item.index) ≡ false → record { good = false; right = right; size = at } ≡ part_told holds (items_in holds 16 0 s)
    unfolding all_right
    items_unfit e = (λ j. record { good = false; right = sym (and-true right) j; size = sym (add-zero at) j }) ∙ by_rest (items_none holds more least (drop at s) (sym fits ∙ e))

    -- it is good, whether its index rises or not
    module _ (good : item.good ≡ true) where
      is_good : i.good ≡ true
      is_good = sym (ap (λ x. x.good) same) ∙ good

      pub item_ends : at + item.size ≤ length s
      item_ends = omega (arith, item_within holds (drop at s) is_good, size_is, length-drop at s, so_far.within)

      pub item_small : item.index < 1000
      item_small = rw index_is (index_small holds (drop at s) is_good)

    -- it is good, and its index rises
    module _ (good : (item.good && leb least item.index) ≡ true) where
      fitted : fitting i least ≡ true
      fitted = sym fits ∙ good

      ends : at + item.size ≤ length s
      ends = item_ends (and_left item.good _ good)

      -- what stands behind it
      module _ {w : List ℕ} (behind-it : w ≡ drop item.size t) where
        tail_is : w ≡ after
        tail_is = behind-it ∙ (λ j. drop (size_is j) (here j))

        tail_long : length w ≡ length s - (at + item.size)
        tail_long = ap length behind-it ∙ length-drop item.size t ∙ omega (arith, ap length here, length-drop at s)

        -- the closing brace
        pub brace_room : 1 ≤ length w → at + item.size + 1 ≤ length s
        brace_room h = omega (arith, tail_long, ends)

        ends_with : (b : ℕ) → get_or w 0 0 ≡ b → eqb (get_or after 0 0) b ≡ true
        ends_with b e = eq-eqb _ _ (rw tail_is at e)

        ends_else : (b : ℕ) → (get_or w 0 0 ≡ b → ⊥) → eqb (get_or after 0 0) b ≡ false
        ends_else b e = ne_eqb _ _ (λ f. e (rw tail_is f))

        pub items_end : 0 < more → get_or w 0 0 ≡ 125 → record { good = true; right = right && item.right; size = at + item.size + 1 } ≡ part_told holds (items_in holds 16 0 s)
        unfolding all_right
        items_end again e =
            let regrouped : at + item.size + 1 ≡ at + (i.size + 1) = omega (arith, size_is) in
            (λ j. record { good = true; right = right && (ap (λ x. x.right) same ∙ sym (and-true (value_right holds i.value))) j; size = regrouped j })
            ∙ by_turn again (items_closed holds (more - 1) least (drop at s) fitted (ends_with 125 e))

        pub items_stop : 0 < more → (get_or w 0 0 ≡ 125 → ⊥) → (get_or w 0 0 ≡ 44 → ⊥) → record { good = false; right = right && item.right; size = at + item.size } ≡ part_told holds (items_in holds 16 0 s)
        unfolding all_right
        items_stop again brace comma =
            let regrouped : at + item.size ≡ at + (i.size + 0) = omega (arith, size_is) in
            (λ j. record { good = false; right = right && (ap (λ x. x.right) same ∙ sym (and-true (value_right holds i.value))) j; size = regrouped j })
            ∙ by_turn again (items_broken holds (more - 1) least (drop at s) fitted (ends_else 125 brace) (ends_else 44 comma))

        -- nothing stands there
        pub items_cut : 0 < more → length w < 1 → record { good = false; right = right && item.right; size = at + item.size } ≡ part_told holds (items_in holds 16 0 s)
        items_cut again h = items_stop again (λ e. omega (arith, there_is w e (omega arith))) (λ e. omega (arith, there_is w e (omega arith)))

        -- a comma and spaces
        module _ (there : 1 ≤ length w) {gap : ℕ} (spaces : gap ≡ spaces_in (take (length w - 1) (drop 1 w))) where
          past-comma : take (length w - 1) (drop 1 w) ≡ drop 1 w
          past-comma = let h : length (drop 1 w) ≤ length w - 1 = omega (arith, length-drop 1 w) in take_all (length w - 1) (drop 1 w) h

          pub comma_room : at + item.size + (1 + gap) ≤ length s
          comma_room =
              omega
              (arith, tail_long, ends, spaces, front_within (range "  ") (take (length w - 1) (drop 1 w)), ap length past-comma, length-drop 1 w)

          pub items_on : 0 < more → get_or w 0 0 ≡ 44 → ItemsSoFar holds s (at + item.size + (1 + gap)) (item.index + 1) (right && item.right) (more - 1)
          unfolding all_right
          items_on again comma =
              let gap_is : 1 + gap ≡ after_comma after = λ j. 1 + (spaces ∙ ap spaces_in (past-comma ∙ (λ k. drop 1 (tail_is k)))) j in
              let next_is : item.index + 1 ≡ suc i.index = omega (arith, index_is) in
              let place : at + item.size + (1 + gap) ≡ at + i.size + after_comma after = λ j. at + size_is j + gap_is j in
              let rest-is : drop (at + item.size + (1 + gap)) s ≡ drop (after_comma after) after =
              ap (λ (k : ℕ). drop k s) place
              ∙ sym (drop-drop (after_comma after) (at + i.size) s)
              ∙ ap (drop (after_comma after)) (sym (drop-drop i.size at s))
              in
              let p : Part = further holds (more - 1) least (drop at s) in
              let whole : at + (i.size + (after_comma after + p.size)) ≡ at + item.size + (1 + gap) + p.size = omega (arith, place) in
              record {
                within = comma_room;
                left =
                    sym (by_turn again (items_more holds (more - 1) least (drop at s) fitted (ends_else 125 (λ e. omega (arith, e, comma))) (ends_with 44 comma)))
                    ∙ (λ j. record {
                      good = p.good;
                      right = (sym (and_assoc right (value_right holds i.value) (all_right holds p.values)) ∙ (λ k. (right && (sym same k).right) && all_right holds p.values)) j;
                      size = whole j;
                    })
                    ∙ (λ j. grown (right && item.right) (at + item.size + (1 + gap)) (part_told holds (items_in holds (more - 1) (sym next_is j) (sym rest-is j))));
              }
