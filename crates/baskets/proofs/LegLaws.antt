-- Baskets and legs as the functions tell them.
use mathlib.Core.Path.{◌≡◌, ◌∙◌, refl, sym, ap}
use mathlib.Core.Bool.{Bool, true, false, cond, not, ◌&&◌, ◌||◌, and_assoc}
use mathlib.Core.List.{List, [], ◌∷◌, ◌++◌}
use mathlib.Core.Logic.{⊎_elim}
use Prim.Native.Nat.{ℕ, ◌+◌, ◌-◌, ◌≤◌, ◌<◌}
use native.Mathlib.Omega.{arith}
use borrow.Author.Tests.{eq-eqb, ne_eqb, eqb-true, eqb-false}
use lib.Dec.{eqb}
use lib.ListN.{length, get_or, take, drop, length-drop}
use lib.Seq.{take_all}
use Rattle.text.specs.Class.{range}
use Rattle.text.proofs.Bools.{or_cases}
use Rattle.baskets.specs.declared.items.Holds.{Holds}
use Rattle.baskets.specs.declared.items.Part.{Part as PartRead}
use Rattle.baskets.specs.declared.legs.Kind.TheVariants.{Swap, Other}
use Rattle.baskets.specs.Items.{Part, spaces_in, stands, value_right, all_right, none, behind, items_in, basket_in}
use Rattle.baskets.specs.Legs.{leg_in, two_legs, past_spaces, legs_in}
use Rattle.baskets.specs.Told.{part_told}
use Rattle.baskets.proofs.ItemLaws.{front_within, items_within, there_is}

-- what is told of a part that has to open with a byte of its own
module _ (holds : Holds) {test : Bool} (p : Part) where
  pub not_opened : test ≡ false → record { good = false; right = true; size = 0 } ≡ part_told holds (cond test (behind 1 p) none)
  unfolding all_right
  not_opened e = rw e

  pub opened : {r : PartRead} → test ≡ true → r ≡ part_told holds p → record { good = r.good; right = r.right; size = 1 + r.size } ≡ part_told holds (cond test (behind 1 p) none)
  opened e told = (λ j. record { good = (told j).good; right = (told j).right; size = 1 + (told j).size }) ∙ rw e

-- what stands behind a byte of its own ends within the text
opened_within : (s : List ℕ) (test : Bool) (p : Part) → (test ≡ true → 0 < length s) → p.size ≤ length (drop 1 s) → (cond test (behind 1 p) none).size ≤ length s
opened_within s true p there h = omega (arith, there refl, length-drop 1 s)
opened_within s false p there h = omega arith

pub basket_within : (holds : Holds) (s : List ℕ) → (basket_in holds s).size ≤ length s
unfolding basket_in
basket_within holds s =
    opened_within s (stands "{" 0 s) (items_in holds 16 0 (drop 1 s)) (λ e. there_is s (eqb-true (get_or s 0 0) 123 e) (omega arith)) (items_within holds 16 0 (drop 1 s))

sign_there : (s : List ℕ) → (stands "+" 0 s || stands "-" 0 s) ≡ true → 0 < length s
sign_there s e =
    ⊎_elim (λ p. there_is s (eqb-true (get_or s 0 0) 43 p) (omega arith)) (λ m. there_is s (eqb-true (get_or s 0 0) 45 m) (omega arith))
    (or_cases (stands "+" 0 s) (stands "-" 0 s) e)

pub leg_within : (holds : Holds) (s : List ℕ) → (leg_in holds s).size ≤ length s
unfolding leg_in
leg_within holds s = opened_within s (stands "+" 0 s || stands "-" 0 s) (basket_in holds (drop 1 s)) (sign_there s) (basket_within holds (drop 1 s))

-- a basket and a leg by their first byte, with what stands behind it
module _ (s : List ℕ) where
  abbrev behind_first : List ℕ
  behind_first = take (length s - 1) (drop 1 s)

  behind_is : behind_first ≡ drop 1 s
  behind_is = let h : length (drop 1 s) ≤ length s - 1 = omega (arith, length-drop 1 s) in take_all (length s - 1) (drop 1 s) h

  first_else : (b : ℕ) → 0 < b → (1 ≤ length s → get_or s 0 0 ≡ b → ⊥) → eqb (get_or s 0 0) b ≡ false
  first_else b some e = ne_eqb _ _ (λ f. e (there_is s f some) f)

  module _ (holds : Holds) where
    pub no_basket : (1 ≤ length s → get_or s 0 0 ≡ 123 → ⊥) → record { good = false; right = true; size = 0 } ≡ part_told holds (basket_in holds s)
    unfolding basket_in
    no_basket e = not_opened holds (items_in holds 16 0 (drop 1 s)) (first_else 123 (omega arith) e)

    pub no_leg : (1 ≤ length s → get_or s 0 0 ≡ 43 → ⊥) → (1 ≤ length s → get_or s 0 0 ≡ 45 → ⊥) → record { good = false; right = true; size = 0 } ≡ part_told holds (leg_in holds s)
    unfolding leg_in
    no_leg plus minus = not_opened holds (basket_in holds (drop 1 s)) (λ j. first_else 43 (omega arith) plus j || first_else 45 (omega arith) minus j)

    module _ {r : PartRead} (told : r ≡ part_told holds (items_in holds 16 0 behind_first)) where
      pub items_room : 1 + r.size ≤ length s + 1
      items_room = omega (arith, ap (λ x. x.size) told, items_within holds 16 0 behind_first, ap length behind_is, length-drop 1 s)

      pub a_basket : get_or s 0 0 ≡ 123 → record { good = r.good; right = r.right; size = 1 + r.size } ≡ part_told holds (basket_in holds s)
      unfolding basket_in
      a_basket e = opened holds (items_in holds 16 0 (drop 1 s)) (eq-eqb _ _ e) (told ∙ (λ j. part_told holds (items_in holds 16 0 (behind_is j))))

    module _ {r : PartRead} (told : r ≡ part_told holds (basket_in holds behind_first)) where
      pub basket_room : 1 + r.size ≤ length s + 1
      basket_room = omega (arith, ap (λ x. x.size) told, basket_within holds behind_first, ap length behind_is, length-drop 1 s)

      pub a_leg : ((get_or s 0 0 ≡ 43 → ⊥) → (get_or s 0 0 ≡ 45 → ⊥) → ⊥) → record { good = r.good; right = r.right; size = 1 + r.size } ≡ part_told holds (leg_in holds s)
      unfolding leg_in
      a_leg e = opened holds (basket_in holds (drop 1 s)) sign (told ∙ (λ j. part_told holds (basket_in holds (behind_is j))))
        where
          sign : (stands "+" 0 s || stands "-" 0 s) ≡ true
          sign = go (stands "+" 0 s) (stands "-" 0 s) refl refl
            where
              go : (p m : Bool) → stands "+" 0 s ≡ p → stands "-" 0 s ≡ m → (p || m) ≡ true
              go true m f g = refl
              go false true f g = refl
              go false false f g = absurd (e (eqb-false _ _ f) (eqb-false _ _ g))

all_right_append : (holds : Holds) (us vs : List (List ℕ)) → (all_right holds us && all_right holds vs) ≡ all_right holds (us ++ vs)
unfolding all_right
all_right_append holds [] vs = refl
all_right_append holds (u ∷ us) vs = and_assoc (value_right holds u) (all_right holds us) (all_right holds vs) ∙ ap (λ (t : Bool). value_right holds u && t) (all_right_append holds us vs)

-- one leg, and two
module _ (holds : Holds) (s : List ℕ) {first : PartRead} (first_is : first ≡ part_told holds (leg_in holds s)) where
  first_size : first.size ≡ (leg_in holds s).size
  first_size = ap (λ x. x.size) first_is

  pub swap_one : first.size ≡ length s → first ≡ part_told holds (legs_in Swap holds s)
  unfolding legs_in
  swap_one e = first_is ∙ rw (eq-eqb (leg_in holds s).size (length s) (sym first_size ∙ e))

  pub first_room : first.size ≤ length s
  first_room = rw first_size (leg_within holds s)

  module _ {u : List ℕ} {gap : ℕ} (past : u ≡ drop (first.size + 1) s) (spaces : gap ≡ spaces_in u) where
    pub second_room : first.size + 1 + gap ≤ length s + 1
    second_room = omega (arith, first_room, spaces, front_within (range "  ") u, ap length past, length-drop (first.size + 1) s)

    place : first.size + 1 + gap ≡ past_spaces (leg_in holds s).size s
    place = λ j. first_size j + 1 + (spaces ∙ ap spaces_in (past ∙ (λ k. drop (first_size k + 1) s))) j

    module _ {t : List ℕ} {second : PartRead} (there : t ≡ drop (first.size + 1 + gap) s) (second_is : second ≡ part_told holds (leg_in holds t)) where
      pub swap_room : first.size + 1 + gap + second.size ≤ length s + 1
      swap_room = omega (arith, second_room, ap (λ x. x.size) second_is, leg_within holds t, ap length there, length-drop (first.size + 1 + gap) s)

      pub swap_two : {b sign other_sign : ℕ} → (first.size ≡ length s → ⊥) → b ≡ get_or s first.size 0 → sign ≡ get_or s 0 0 → other_sign ≡ get_or s (first.size + 1 + gap) 0
          → record {
            good = first.good && eqb b 59 && second.good && not (eqb sign other_sign) && eqb (first.size + 1 + gap + second.size) (length s);
            right = first.right && second.right;
            size = first.size + 1 + gap + second.size;
          }
          ≡ part_told holds (legs_in Swap holds s)
      unfolding legs_in
      swap_two not-all b-is sign_is other-is =
          let at : ℕ = first.size + 1 + gap in
          (λ j. record {
            good = (first_is j).good && eqb ((b-is ∙ (λ k. get_or s (first_size k) 0)) j) 59 && (second_is j).good && not (eqb (sign_is j) (other-is j)) && eqb (at + (second_is j).size) (length s);
            right = ((λ k. (first_is k).right && (second_is k).right) ∙ all_right_append holds (leg_in holds s).values (leg_in holds t).values) j;
            size = at + (second_is j).size;
          })
          ∙ (λ j. part_told holds (two_legs s (leg_in holds s) (place j) (leg_in holds ((there ∙ (λ k. drop (place k) s)) j))))
          ∙ rw (ne_eqb (leg_in holds s).size (length s) (λ e. not-all (first_size ∙ e)))

pub one_basket : (holds : Holds) (s : List ℕ) {r : PartRead} → r ≡ part_told holds (basket_in holds s)
    → record { good = r.good && eqb r.size (length s); right = r.right; size = r.size } ≡ part_told holds (legs_in Other holds s)
unfolding legs_in
one_basket holds s e = λ j. record { good = (e j).good && eqb (e j).size (length s); right = (e j).right; size = (e j).size }
