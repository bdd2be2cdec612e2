-- Values, items and baskets as the functions read them: from a place on, and within the text.
use mathlib.Core.Path.{◌≡◌, ◌∙◌, refl, sym, ap}
use mathlib.Core.Bool.{Bool, true, false, cond, not, ◌&&◌, true≢false}
use mathlib.Core.List.{List, [], ◌∷◌}
use Prim.Native.Nat.{ℕ, zero, suc, ◌+◌, ◌-◌, ◌≤◌, ◌<◌}
use native.Mathlib.Omega.{arith}
use borrow.Author.Tests.{eqb-true, eqb-false, leb-true, not-true}
use lib.Dec.{eqb, leb, lit<}
use lib.ListN.{length, get_or, take, drop, length-drop, length-take}
use Rattle.std.specs.List.{take_while, prefix_len}
use Rattle.text.specs.Ascii.{ascii}
use Rattle.text.specs.Class.{range}
use Rattle.text.specs.Shape.{suits, shape}
use Rattle.text.specs.Word.{one_of}
use Rattle.text.specs.Number.{number_of}
use Rattle.text.proofs.Bools.{and_left, and_right, by_test}
use Rattle.text.proofs.NumberLaws.{numeral_below, ten_grows, number_short}
use Rattle.ident.specs.Codes.{isin_shaped}
use Rattle.baskets.specs.declared.items.Holds.{Holds}
use Rattle.baskets.specs.declared.items.Holds.TheVariants.{Isin, Term}
use Rattle.baskets.specs.declared.items.Value.{Value}
use Rattle.baskets.specs.Items.{Part, in_front, digits_in, one_to_three, spaces_in, stands, units, value_size, value_right, item_with, item_in, none, behind, joined, after_comma, fitting, items_in}
use Rattle.baskets.specs.Told.{value_told, item_told}

-- the bytes in front are counted
pub front_counted : (test : ℕ → Bool) (s : List ℕ) → in_front test s ≡ length (take_while test s)
unfolding in_front
front_counted test [] = refl
front_counted test (b ∷ s) = go (test b) (front_counted test s)
  where
    go : (t : Bool) → in_front test s ≡ length (take_while test s) → cond t (suc (in_front test s)) 0 ≡ length (take (cond t (1 + prefix_len test s) 0) (b ∷ s))
    go true h = let e : 1 + prefix_len test s ≡ suc (prefix_len test s) = omega arith in rw e (ap suc h)
    go false h = refl

pub front_within : (test : ℕ → Bool) (s : List ℕ) → in_front test s ≤ length s
unfolding in_front
front_within test [] = omega arith
front_within test (b ∷ s) = go (test b) (front_within test s)
  where
    go : (t : Bool) → in_front test s ≤ length s → cond t (suc (in_front test s)) 0 ≤ suc (length s)
    go true h = omega arith
    go false h = omega arith

-- what has a shape is as long as the pattern
pub shape_long : (pattern s : List ℕ) → shape pattern s ≡ true → length s ≡ length pattern
unfolding shape
shape_long [] [] e = refl
shape_long [] (b ∷ s) e = absurd (true≢false (sym e))
shape_long (p ∷ pattern) [] e = absurd (true≢false (sym e))
shape_long (p ∷ pattern) (b ∷ s) e = ap suc (shape_long pattern s (and_right (suits p b) (shape pattern s) e))

pub one_long : (width : ℕ) (words s : List ℕ) → one_of width words s ≡ true → length s ≡ width
unfolding one_of
one_long width words s e = eqb-true (length s) width (and_left (eqb (length s) width) _ e)

-- a value stands within the text
pub value_within : (holds : Holds) (s : List ℕ) → value_size holds s ≤ length s
value_within Isin s = by_test (isin_shaped (take 12 s)) (λ e. rw e (omega (arith, shape_long (ascii "uunnnnnnnnnd") (take 12 s) e, length-take 12 s))) (λ e. rw e (omega arith))
value_within Term s =
    by_test (one_of 5 units (take 5 s) && one_to_three (digits_in (drop 5 s)))
    (λ e. rw e
    (omega
    (arith, one_long 5 units (take 5 s) (and_left (one_of 5 units (take 5 s)) _ e), length-take 5 s, front_within (range "09") (drop 5 s), length-drop 5 s)))
    (λ e. rw e (omega arith))

-- the item in front, by what the calls tell: n digits, and behind the colon and the spaces the value
module _ (s : List ℕ) {n : ℕ} (digits : n ≡ digits_in s) where
  pub colon_room : n ≤ length s
  colon_room = rw digits (front_within (range "09") s)

  module _ {u : List ℕ} {gap : ℕ} (past : u ≡ drop (n + 1) s) (spaces : gap ≡ spaces_in u) where
    pub value_room : n + 1 + gap ≤ length s + 1
    value_room = omega (arith, colon_room, spaces, front_within (range "  ") u, ap length past, length-drop (n + 1) s)

    place : n + 1 + gap ≡ digits_in s + 1 + spaces_in (drop (digits_in s + 1) s)
    place = λ i. digits i + 1 + (spaces ∙ ap spaces_in (past ∙ (λ j. drop (digits j + 1) s))) i

    module _ (holds : Holds) {t : List ℕ} {value : Value} (there : t ≡ drop (n + 1 + gap) s) (value_is : value ≡ value_told holds t) where
      sized : value.size ≡ value_size holds (drop (n + 1 + gap) s)
      sized = ap (λ v. v.size) value_is ∙ ap (value_size holds) there

      pub item_room : n + 1 + gap + value.size ≤ length s + 1
      item_room = omega (arith, value_room, sized, value_within holds (drop (n + 1 + gap) s), length-drop (n + 1 + gap) s)

      pub item_is : {colon index : ℕ} {front : List ℕ} → colon ≡ get_or s n 0 → front ≡ take n s → index ≡ number_of front
          → record { good = one_to_three n && eqb colon 58 && not (eqb value.size 0); index = index; right = value.right; size = n + 1 + gap + value.size }
          ≡ item_told holds (item_in holds s)
      unfolding item_in
      item_is colon-there front-is number =
          (λ i. record {
            good = one_to_three n && eqb (colon-there i) 58 && not (eqb (sized i) 0);
            index = (number ∙ ap number_of front-is) i;
            right = (ap (λ v. v.right) value_is ∙ (λ j. value_right holds (take (value_size holds (there j)) (there j)))) i;
            size = n + 1 + gap + sized i;
          })
          ∙ (λ i. item_told holds (item_with holds s (digits i) (place i)))

-- what is a good item ends within the text
pub item_within : (holds : Holds) (s : List ℕ) → (item_in holds s).good ≡ true → (item_in holds s).size ≤ length s
unfolding item_in
item_within holds s e = go (digits_in s + 1 + spaces_in (drop (digits_in s + 1) s)) (and_right (one_to_three (digits_in s) && stands ":" (digits_in s) s) _ e)
  where
    go : (at : ℕ) → not (eqb (value_size holds (drop at s)) 0) ≡ true → at + value_size holds (drop at s) ≤ length s
    go at some = omega (arith, eqb-false (value_size holds (drop at s)) 0 (not-true _ some), value_within holds (drop at s), length-drop at s)

-- one turn of a basket: the items from here on, by the item in front and the byte behind it
module _ (holds : Holds) (most least : ℕ) (s : List ℕ) where
  abbrev pub tail : List ℕ
  tail = drop (item_in holds s).size s

  abbrev pub further : Part
  further = items_in holds most (suc (item_in holds s).index) (drop (after_comma tail) tail)

  pub items_bad : fitting (item_in holds s) least ≡ false → items_in holds (suc most) least s ≡ none
  unfolding items_in
  items_bad e = rw e

  pub items_closed : fitting (item_in holds s) least ≡ true → stands "}" 0 tail ≡ true → items_in holds (suc most) least s ≡ joined (item_in holds s) (record { good = true; values = []; size = 1 })
  unfolding items_in
  items_closed e brace = rw (e, brace)

  pub items_broken : fitting (item_in holds s) least ≡ true → stands "}" 0 tail ≡ false → stands "," 0 tail ≡ false → items_in holds (suc most) least s ≡ joined (item_in holds s) none
  unfolding items_in
  items_broken e brace comma = rw (e, brace, comma)

  pub items_more : fitting (item_in holds s) least ≡ true → stands "}" 0 tail ≡ false → stands "," 0 tail ≡ true
      → items_in holds (suc most) least s ≡ joined (item_in holds s) (behind (after_comma tail) further)
  unfolding items_in
  items_more e brace comma = rw (e, brace, comma)

-- no items where the first is unfit, however many may follow
pub items_none : (holds : Holds) (most least : ℕ) (s : List ℕ) → fitting (item_in holds s) least ≡ false → items_in holds most least s ≡ none
unfolding items_in
items_none holds zero least s e = refl
items_none holds (suc most) least s e = items_bad holds most least s e

-- the index of a good item has at most three digits
pub index_small : (holds : Holds) (s : List ℕ) → (item_in holds s).good ≡ true → (item_in holds s).index < 1000
unfolding item_in
index_small holds s e =
    let n : ℕ = digits_in s in
    let few : n ≤ 3 = leb-true n 3 (and_right (leb 1 n) (leb n 3) (and_left (one_to_three n) _ (and_left (one_to_three n && stands ":" n s) _ e))) in
    let short : length (take n s) ≤ 3 = omega (arith, length-take n s) in
    rw (sym (number_short (take n s) (omega arith))) (omega (arith, numeral_below 0 0 (take n s) (lit< tt), ten_grows (0 + length (take n s)) 3 (omega arith)))

-- a byte that is not 0 stands within the text
pub there_is : (s : List ℕ) {b : ℕ} → get_or s 0 0 ≡ b → 0 < b → 0 < length s
there_is [] e h = absurd (omega (arith, e))
there_is (x ∷ s) e h = omega arith

-- what is told of items ends within the text
pub items_within : (holds : Holds) (most least : ℕ) (s : List ℕ) → (items_in holds most least s).size ≤ length s
unfolding items_in
items_within holds zero least s = omega arith
items_within holds (suc most) least s =
    by_test (fitting (item_in holds s) least)
    (λ e.
    let w : (item_in holds s).size ≤ length s = item_within holds s (and_left (item_in holds s).good _ e) in
    by_test (stands "}" 0 after)
    (λ b. rw (items_closed holds most least s e b) (omega (arith, w, after_long, there_is after (eqb-true (get_or after 0 0) 125 b) (omega arith))))
    (λ b.
    by_test (stands "," 0 after)
    (λ c.
    rw (items_more holds most least s e b c)
    (omega
    (arith, w, after_long, there_is after (eqb-true (get_or after 0 0) 44 c) (omega arith), front_within (range "  ") (drop 1 after), length-drop 1 after, items_within holds most (suc (item_in holds s).index) (drop (after_comma after) after), length-drop (after_comma after) after)))
    (λ c. rw (items_broken holds most least s e b c) (omega (arith, w)))))
    (λ e. rw (items_bad holds most least s e) (omega arith))
  where
    after : List ℕ
    after = drop (item_in holds s).size s

    after_long : length after ≡ length s - (item_in holds s).size
    after_long = length-drop (item_in holds s).size s
