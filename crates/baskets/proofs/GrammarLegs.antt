-- Legs are read exactly where the grammar writes them.
use mathlib.Core.Path.{◌≡◌, ◌∙◌, sym, refl, ap, subst}
use mathlib.Core.Bool.{Bool, true, false, cond, not, ◌&&◌, ◌||◌}
use mathlib.Core.List.{List, [], ◌∷◌, ◌++◌, append-nil, append_assoc}
use Prim.Native.Nat.{ℕ, suc, ◌+◌}
use native.Mathlib.Nat.{add-zero}
use native.Mathlib.Omega.{arith}
use borrow.Author.Tests.{eqb-true, eq-eqb, ne_eqb}
use lib.Dec.{eqb, eqb-suc-zero}
use lib.ListN.{length, get_or, drop, length-append}
use lib.Seq.{drop-append-add, drop-length, get_or-append_seam, get_or-drop, drop-drop}
use Rattle.text.specs.Ascii.{ascii}
use Rattle.text.specs.Word.{blank}
use Rattle.text.proofs.Bools.{and_left, and_right, by_test}
use Rattle.baskets.specs.declared.items.Holds.{Holds}
use Rattle.baskets.specs.declared.legs.Kind.{Kind}
use Rattle.baskets.specs.declared.legs.Kind.TheVariants.{Swap, Other, Malformed}
use Rattle.baskets.specs.Items.{Part, in_front, spaces_in, basket_in, stands, behind, none}
use Rattle.baskets.specs.Legs.{leg_in, legs_in, is_all, past_spaces, two_legs}
use Rattle.baskets.specs.Grammar.{spaces, sign_of, ItemsWritten, LegsWritten, one_leg, two_legs_of, one_basket}
use Rattle.baskets.proofs.FrontLaws.{clash, in_front_both, spaces_length, spaces_count, spaces_passed, stands_first, byte_and_spaces}
use Rattle.baskets.proofs.GrammarBaskets.{all_good, BasketFound, basket_accepted, basket_only}

-- a leg: a sign, and a basket in braces
abbrev leg_of : Bool → List ℕ → List ℕ
leg_of plus items = sign_of plus ++ (ascii "{" ++ items)

leg_begins : (plus : Bool) (s : List ℕ) → spaces_in (sign_of plus ++ s) ≡ 0
unfolding in_front
leg_begins true s = refl
leg_begins false s = refl

leg_some : (plus : Bool) (s : List ℕ) → blank (sign_of plus ++ s) ≡ false
leg_some true s = eqb-suc-zero (length s)
leg_some false s = eqb-suc-zero (length s)

module _ {holds : Holds} {items : List ℕ} {values : List (List ℕ)} where
  leg_accepted : (plus : Bool) → ItemsWritten holds 16 0 items values → (rest : List ℕ) → leg_in holds (leg_of plus items ++ rest) ≡ all_good (leg_of plus items) values
  unfolding leg_in
  leg_accepted true w rest =
      let long : 1 + suc (length items) ≡ suc (suc (length items)) = omega arith in
      rw (basket_accepted w rest) (λ j. record { good = true; values = values; size = long j })
  leg_accepted false w rest =
      let long : 1 + suc (length items) ≡ suc (suc (length items)) = omega arith in
      rw (basket_accepted w rest) (λ j. record { good = true; values = values; size = long j })

  whole_leg : (plus : Bool) → ItemsWritten holds 16 0 items values → leg_in holds (leg_of plus items) ≡ all_good (leg_of plus items) values
  whole_leg plus w = rw (append-nil (leg_of plus items)) at (leg_accepted plus w [])

  whole_basket : ItemsWritten holds 16 0 items values → basket_in holds (123 ∷ items) ≡ all_good (123 ∷ items) values
  whole_basket w = rw (append-nil items) at (basket_accepted w [])

signs_differ : (plus : Bool) (s t : List ℕ) → not (eqb (get_or (sign_of plus ++ s) 0 0) (get_or (sign_of (not plus) ++ t) 0 0)) ≡ true
signs_differ true s t = refl
signs_differ false s t = refl

-- two legs that are written
module _ (plus : Bool) (gap : ℕ) (items items' : List ℕ) where
  abbrev first : List ℕ
  first = leg_of plus items

  abbrev second : List ℕ
  second = leg_of (not plus) items'

  abbrev both : List ℕ
  both = first ++ (ascii ";" ++ (spaces gap ++ second))

  both_length : length both ≡ length first + 1 + gap + length second
  both_length = omega (arith, length-append first (59 ∷ (spaces gap ++ second)), length-append (spaces gap) second, spaces_length gap)

  past_first : past_spaces (length first) both ≡ length first + 1 + gap
  past_first = rw (drop-append-add first (59 ∷ (spaces gap ++ second)) 1, spaces_count gap second (leg_begins (not plus) (ascii "{" ++ items')))

  from_second : drop (length first + 1 + gap) both ≡ second
  from_second = sym (drop-drop gap (length first + 1) both) ∙ rw (drop-append-add first (59 ∷ (spaces gap ++ second)) 1) (spaces_passed gap second)

  second_sign : get_or both (length first + 1 + gap) 0 ≡ get_or second 0 0
  second_sign = sym (rw add-zero at (get_or-drop (length first + 1 + gap) both 0 0)) ∙ ap (λ (t : List ℕ). get_or t 0 0) from_second

  both_signs : not (eqb (get_or both 0 0) (get_or second 0 0)) ≡ true
  both_signs = rw (append_assoc (sign_of plus) (ascii "{" ++ items) (ascii ";" ++ (spaces gap ++ second))) (signs_differ plus _ _)

  both_accepted : {holds : Holds} {values values' : List (List ℕ)} → ItemsWritten holds 16 0 items values → ItemsWritten holds 16 0 items' values'
      → legs_in Swap holds both ≡ all_good both (values ++ values')
  unfolding legs_in
  both_accepted {holds} {values} {values'} w w' =
      let shorter : eqb (length first) (length both) ≡ false = ne_eqb (length first) (length both) (λ e. omega (arith, both_length, e)) in
      rw (
        leg_accepted plus w (59 ∷ (spaces gap ++ second)),
        shorter,
        past_first,
        from_second,
        whole_leg (not plus) w',
        get_or-append_seam first 59 (spaces gap ++ second) 0,
        second_sign,
        both_signs,
        eq-eqb (length first + 1 + gap + length second) (length both) (sym both_length),
      )
      (λ j. record { good = true; values = values ++ values'; size = (sym both_length) j })

pub legs_accepted : {holds : Holds} {kind : Kind} {s : List ℕ} {values : List (List ℕ)} → LegsWritten holds kind s values → legs_in kind holds s ≡ all_good s values
unfolding legs_in
legs_accepted (one_leg {text = items} plus w) = rw (whole_leg plus w, eq-eqb (length (leg_of plus items)) (length (leg_of plus items)) refl)
legs_accepted (two_legs_of {text = items} {text' = items'} plus gap w w') = both_accepted plus gap items items' w w'
legs_accepted (one_basket {text = items} w) = rw (whole_basket w, eq-eqb (suc (length items)) (suc (length items)) refl)

-- a leg in front, with its sign
record LegFound (holds : Holds) (s : List ℕ) (read : Part) : Type 0 where
  plus : Bool
  sign_is : get_or s 0 0 ≡ get_or (sign_of plus) 0 0
  basket : BasketFound holds (sign_of plus) s read

module _ (holds : Holds) (s : List ℕ) where
  signed : (plus : Bool) (c : ℕ) → sign_of plus ≡ suc c ∷ [] → eqb (get_or s 0 0) (suc c) ≡ true → (basket_in holds (drop 1 s)).good ≡ true → LegFound holds s (behind 1 (basket_in holds (drop 1 s)))
  signed plus c is e good =
      let p = basket_only holds (drop 1 s) good in
      record {
        plus = plus;
        sign_is = rw is (eqb-true (get_or s 0 0) (suc c) e);
        basket =
            record {
              items = p.items;
              written = p.written;
              text_is = rw is (in_front_both (suc c ∷ []) (ascii "{" ++ p.items) 1 (basket_in holds (drop 1 s)).size (stands_first c s e) p.text_is);
            };
      }

  leg_only : (leg_in holds s).good ≡ true → LegFound holds s (leg_in holds s)
  unfolding leg_in
  leg_only good = go (stands "+" 0 s) (stands "-" 0 s) refl refl good
    where
      go : (plus minus : Bool) → stands "+" 0 s ≡ plus → stands "-" 0 s ≡ minus → (cond (plus || minus) (behind 1 (basket_in holds (drop 1 s))) none).good ≡ true
          → LegFound holds s (cond (plus || minus) (behind 1 (basket_in holds (drop 1 s))) none)
      go true minus e f g = signed true 42 refl e g
      go false true e f g = signed false 44 refl f g
      go false false e f g = clash g refl

-- what takes all of a text is the text
all_of_it_lem : {s : List ℕ} (text : List ℕ) (n : ℕ) → s ≡ text ++ drop n s → eqb n (length s) ≡ true → s ≡ text
all_of_it_lem {s} text n e f = e ∙ rw (eqb-true n (length s) f, drop-length s, append-nil text)

other_sign : (a b : Bool) → not (eqb (get_or (sign_of a) 0 0) (get_or (sign_of b) 0 0)) ≡ true → b ≡ not a
other_sign true true e = clash e refl
other_sign true false e = refl
other_sign false true e = refl
other_sign false false e = clash e refl

module _ (holds : Holds) (s : List ℕ) where
  -- how long the first leg is, where the second begins, and the text from there
  abbrev first_size : ℕ
  first_size = (leg_in holds s).size

  abbrev place : ℕ
  place = past_spaces first_size s

  abbrev behind_first : List ℕ
  behind_first = drop place s

  one_found : (leg_in holds s).good ≡ true → is_all s (leg_in holds s) ≡ true → LegsWritten holds Swap s (leg_in holds s).values
  one_found good all =
      let p = leg_only holds s good in
      subst (λ (t : List ℕ). LegsWritten holds Swap t (leg_in holds s).values) (sym (all_of_it_lem (leg_of p.plus p.basket.items) first_size p.basket.text_is all))
      (one_leg p.plus p.basket.written)

  module _ (p : LegFound holds s (leg_in holds s)) (q : LegFound holds behind_first (leg_in holds behind_first)) where
    two_signs : not (eqb (get_or s 0 0) (get_or s place 0)) ≡ true → q.plus ≡ not p.plus
    two_signs e =
        let there : get_or s place 0 ≡ get_or (sign_of q.plus) 0 0 = sym (rw add-zero at (get_or-drop place s 0 0)) ∙ q.sign_is in
        other_sign p.plus q.plus (rw (p.sign_is, there) at e)

    two_texts : stands ";" first_size s ≡ true → eqb (place + (leg_in holds behind_first).size) (length s) ≡ true
        → s ≡ leg_of p.plus p.basket.items ++ (ascii ";" ++ (spaces (spaces_in (drop (first_size + 1) s)) ++ leg_of q.plus q.basket.items))
    two_texts e all =
        let k = (leg_in holds behind_first).size in
        let second : behind_first ≡ leg_of q.plus q.basket.items =
        q.basket.text_is ∙ rw (drop-drop k place s, eqb-true (place + k) (length s) all, drop-length s, append-nil (leg_of q.plus q.basket.items)) in
        p.basket.text_is
        ∙ ap (λ (t : List ℕ). leg_of p.plus p.basket.items ++ t)
        (byte_and_spaces s first_size 58 e ∙ ap (λ (t : List ℕ). 59 ∷ (spaces (spaces_in (drop (first_size + 1) s)) ++ t)) second)

    two_found : stands ";" first_size s ≡ true → not (eqb (get_or s 0 0) (get_or s place 0)) ≡ true → eqb (place + (leg_in holds behind_first).size) (length s) ≡ true
        → LegsWritten holds Swap s ((leg_in holds s).values ++ (leg_in holds behind_first).values)
    two_found e signs all =
        let text : s ≡ leg_of p.plus p.basket.items ++ (ascii ";" ++ (spaces (spaces_in (drop (first_size + 1) s)) ++ leg_of (not p.plus) q.basket.items)) =
        rw (two_signs signs) at (two_texts e all) in
        subst (λ (t : List ℕ). LegsWritten holds Swap t ((leg_in holds s).values ++ (leg_in holds behind_first).values)) (sym text)
        (two_legs_of p.plus (spaces_in (drop (first_size + 1) s)) p.basket.written q.basket.written)

  swap_only : (legs_in Swap holds s).good ≡ true → LegsWritten holds Swap s (legs_in Swap holds s).values
  unfolding legs_in
  swap_only good = by_test (is_all s (leg_in holds s)) (λ e. rw e (one_found (rw e at good) e)) (λ e. rw e (two (rw e at good)))
    where
      two : (two_legs s (leg_in holds s) place (leg_in holds behind_first)).good ≡ true → LegsWritten holds Swap s ((leg_in holds s).values ++ (leg_in holds behind_first).values)
      two g =
          let a : Bool = (leg_in holds s).good in
          let b : Bool = stands ";" first_size s in
          let c : Bool = (leg_in holds behind_first).good in
          let d : Bool = not (eqb (get_or s 0 0) (get_or s place 0)) in
          let abcd = and_left (a && b && c && d) (is_all s (behind place (leg_in holds behind_first))) g in
          let abc = and_left (a && b && c) d abcd in
          let ab = and_left (a && b) c abc in
          two_found (leg_only holds s (and_left a b ab)) (leg_only holds behind_first (and_right (a && b) c abc))
          (and_right a b ab) (and_right (a && b && c) d abcd) (and_right (a && b && c && d) (is_all s (behind place (leg_in holds behind_first))) g)

  other_only : (legs_in Other holds s).good ≡ true → LegsWritten holds Other s (legs_in Other holds s).values
  unfolding legs_in
  other_only good =
      let a : Bool = (basket_in holds s).good in
      let p = basket_only holds s (and_left a (is_all s (basket_in holds s)) good) in
      subst (λ (t : List ℕ). LegsWritten holds Other t (basket_in holds s).values)
      (sym (all_of_it_lem (ascii "{" ++ p.items) (basket_in holds s).size p.text_is (and_right a (is_all s (basket_in holds s)) good)))
      (one_basket p.written)

pub legs_only : (kind : Kind) (holds : Holds) (s : List ℕ) → (legs_in kind holds s).good ≡ true → LegsWritten holds kind s (legs_in kind holds s).values
unfolding legs_in
legs_only Swap holds s good = swap_only holds s good
legs_only Other holds s good = other_only holds s good
legs_only Malformed holds s good = clash good refl

-- no leg or basket begins with a space, and none is blank
pub legs_begin : {holds : Holds} {kind : Kind} {s : List ℕ} {values : List (List ℕ)} → LegsWritten holds kind s values → spaces_in s ≡ 0
unfolding in_front
legs_begin (one_leg plus w) = leg_begins plus _
legs_begin (two_legs_of {text = items} plus gap w w') = rw (append_assoc (sign_of plus) (ascii "{" ++ items) _) (leg_begins plus _)
legs_begin (one_basket w) = refl

pub legs_some : {holds : Holds} {kind : Kind} {s : List ℕ} {values : List (List ℕ)} → LegsWritten holds kind s values → blank s ≡ false
legs_some (one_leg plus w) = leg_some plus _
legs_some (two_legs_of {text = items} plus gap w w') = rw (append_assoc (sign_of plus) (ascii "{" ++ items) _) (leg_some plus _)
legs_some (one_basket {text = items} w) = eqb-suc-zero (length items)
