-- What stands in front of a text: a run of digits or spaces, a byte, a word, the value of an item.
use mathlib.Core.Path.{◌≡◌, ◌∙◌, sym, refl, ap}
use mathlib.Core.Bool.{Bool, true, false, cond, not, ◌&&◌, true≢false}
use mathlib.Core.List.{List, [], ◌∷◌, ◌++◌, append_assoc}
use Prim.Native.Nat.{ℕ, zero, suc, ◌+◌, ◌≤◌}
use native.Mathlib.Nat.{add-zero}
use native.Mathlib.Omega.{arith}
use borrow.Author.Tests.{eqb-true, leb-true}
use lib.Dec.{leb, eqb, eqb-suc-zero}
use lib.ListN.{length, get_or, take, drop, length-replicate, length-drop, length-take}
use lib.Seq.{take-append-le, drop-append-le, take-add, take_at, drop_at, drop-drop, get_or-drop}
use Rattle.text.specs.Ascii.{ascii}
use Rattle.text.specs.Class.{range, in_class, all_of, run_of}
use Rattle.text.specs.declared.classes.Class.TheVariants.{Digit}
use Rattle.text.specs.Shape.{suits, shape}
use Rattle.text.specs.Word.{starts_with, among, one_of}
use Rattle.text.proofs.Bools.{and_left, and_right, by_test}
use Rattle.text.proofs.NumberLaws.{digit_yes}
use Rattle.ident.specs.Codes.{isin_shaped}
use Rattle.baskets.specs.declared.items.Holds.{Holds}
use Rattle.baskets.specs.declared.items.Holds.TheVariants.{Isin, Term}
use Rattle.baskets.specs.Items.{in_front, digits_in, spaces_in, one_to_three, units, value_size}
use Rattle.baskets.specs.Grammar.{spaces, is_value}
use Rattle.baskets.proofs.ItemLaws.{shape_long, one_long}

-- a test cannot say both
pub clash : {A : Type 0} {t : Bool} → t ≡ true → t ≡ false → A
clash e f = absurd (true≢false (sym e ∙ f))

-- one text in front, and another in front of what is behind it
pub in_front_both : {s : List ℕ} (a b : List ℕ) (m n : ℕ) → s ≡ a ++ drop m s → drop m s ≡ b ++ drop n (drop m s) → s ≡ (a ++ b) ++ drop (m + n) s
in_front_both {s} a b m n e f = e ∙ ap (λ (t : List ℕ). a ++ t) (f ∙ ap (λ (t : List ℕ). b ++ t) (drop-drop n m s)) ∙ sym (append_assoc a b (drop (m + n) s))

-- bytes that all pass, then one that does not
pub front_counts : (test : ℕ → Bool) (s t : List ℕ) → in_front test s ≡ length s → in_front test t ≡ 0 → in_front test (s ++ t) ≡ length s
unfolding in_front
front_counts test [] t e f = f
front_counts test (b ∷ s) t e f = go (test b) e (λ h. front_counts test s t h f)
  where
    go : (p : Bool) → cond p (suc (in_front test s)) 0 ≡ suc (length s) → (in_front test s ≡ length s → in_front test (s ++ t) ≡ length s)
        → cond p (suc (in_front test (s ++ t))) 0 ≡ suc (length s)
    go true h on = ap suc (on (omega arith))
    go false h on = absurd (omega arith)

-- digits, and what is read as digits
pub digits_count : (s : List ℕ) → all_of Digit s ≡ true → digits_in s ≡ length s
unfolding in_front all_of
digits_count [] e = refl
digits_count (b ∷ s) e = rw (and_left (in_class Digit b) (all_of Digit s) e) (ap suc (digits_count s (and_right (in_class Digit b) (all_of Digit s) e)))

pub digits_first : (s : List ℕ) → (all_of Digit (take (digits_in s) s) ≡ true) × (length (take (digits_in s) s) ≡ digits_in s)
unfolding in_front all_of
digits_first [] = (refl, refl)
digits_first (b ∷ s) = go (in_class Digit b) refl (digits_first s)
  where
    go : (p : Bool) → in_class Digit b ≡ p → (all_of Digit (take (digits_in s) s) ≡ true) × (length (take (digits_in s) s) ≡ digits_in s)
        → (all_of Digit (take (cond p (suc (digits_in s)) 0) (b ∷ s)) ≡ true) × (length (take (cond p (suc (digits_in s)) 0) (b ∷ s)) ≡ cond p (suc (digits_in s)) 0)
    go true e h = (rw e h.0, ap suc h.1)
    go false e h = (refl, refl)

pub digits_run : (s : List ℕ) → one_to_three (digits_in s) ≡ true → run_of Digit 1 3 (take (digits_in s) s) ≡ true
digits_run s e = rw ((digits_first s).1, e) (digits_first s).0

-- spaces, and what is read as spaces
space_is : (b : ℕ) → range "  " b ≡ true → b ≡ 32
space_is b e = omega (arith, leb-true 32 b (and_left (leb 32 b) (leb b 32) e), leb-true b 32 (and_right (leb 32 b) (leb b 32) e))

pub spaces_length : (n : ℕ) → length (spaces n) ≡ n
spaces_length n = length-replicate {A = ℕ} n 32

pub spaces_count : (n : ℕ) (s : List ℕ) → spaces_in s ≡ 0 → spaces_in (spaces n ++ s) ≡ n
unfolding in_front
spaces_count zero s e = e
spaces_count (suc n) s e = ap suc (spaces_count n s e)

pub spaces_passed : (n : ℕ) (s : List ℕ) → drop n (spaces n ++ s) ≡ s
spaces_passed n s = drop_at (spaces n) s n (spaces_length n)

pub spaces_first : (s : List ℕ) → s ≡ spaces (spaces_in s) ++ drop (spaces_in s) s
unfolding in_front
spaces_first [] = refl
spaces_first (b ∷ s) = go (range "  " b) refl (spaces_first s)
  where
    go : (p : Bool) → range "  " b ≡ p → s ≡ spaces (spaces_in s) ++ drop (spaces_in s) s
        → b ∷ s ≡ spaces (cond p (suc (spaces_in s)) 0) ++ drop (cond p (suc (spaces_in s)) 0) (b ∷ s)
    go true e h = λ i. space_is b e i ∷ h i
    go false e h = refl

-- an index begins with no space
pub index_begins : (s rest : List ℕ) → run_of Digit 1 3 s ≡ true → spaces_in (s ++ rest) ≡ 0
unfolding in_front all_of
index_begins [] rest e = clash refl (sym e)
index_begins (b ∷ s) rest e =
    let d : in_class Digit b ≡ true = and_left (in_class Digit b) (all_of Digit s) (and_right (one_to_three (suc (length s))) (all_of Digit (b ∷ s)) e) in
    by_test (range "  " b) (λ p. absurd (omega (arith, digit_yes b d, space_is b p))) (λ p. rw p)

-- a byte other than 0, which is what is read behind the end
pub stands_first : (c : ℕ) (s : List ℕ) → eqb (get_or s 0 0) (suc c) ≡ true → s ≡ suc c ∷ drop 1 s
stands_first c [] e = absurd (omega (arith, eqb-true 0 (suc c) e))
stands_first c (b ∷ s) e = ap (λ (x : ℕ). x ∷ s) (eqb-true b (suc c) e)

module _ (s : List ℕ) (n : ℕ) where
  byte_at : (c : ℕ) → eqb (get_or s n 0) (suc c) ≡ true → drop n s ≡ suc c ∷ drop (n + 1) s
  byte_at c e =
      let here : eqb (get_or (drop n s) 0 0) (suc c) ≡ true = rw (get_or-drop n s 0 0, add-zero) e in
      stands_first c (drop n s) here ∙ rw (drop-drop 1 n s)

  -- a byte at a place, and the spaces behind it
  pub byte_and_spaces : (c : ℕ) → eqb (get_or s n 0) (suc c) ≡ true
      → drop n s ≡ suc c ∷ (spaces (spaces_in (drop (n + 1) s)) ++ drop (n + 1 + spaces_in (drop (n + 1) s)) s)
  byte_and_spaces c e = byte_at c e ∙ ap (λ (t : List ℕ). suc c ∷ t) (spaces_first (drop (n + 1) s) ∙ rw (drop-drop (spaces_in (drop (n + 1) s)) (n + 1) s))

pub word_first : (word s : List ℕ) → starts_with word s ≡ true → s ≡ word ++ drop (length word) s
unfolding starts_with
word_first [] s e = refl
word_first (y ∷ word) [] e = clash refl (sym e)
word_first (y ∷ word) (x ∷ s) e = λ i. eqb-true x y (and_left (eqb x y) (starts_with word s) e) i ∷ word_first word s (and_right (eqb x y) (starts_with word s) e) i

-- a value is never empty and begins with no space
no_unit_blank : (s : List ℕ) → one_of 5 units (take 5 (32 ∷ s)) ≡ false
unfolding one_of among starts_with
no_unit_blank [] = refl
no_unit_blank (a ∷ []) = refl
no_unit_blank (a ∷ b ∷ []) = refl
no_unit_blank (a ∷ b ∷ c ∷ []) = refl
no_unit_blank (a ∷ b ∷ c ∷ d ∷ s) = refl

no_value_blank : (holds : Holds) (s : List ℕ) → is_value holds (32 ∷ s) ≡ false
unfolding shape suits
no_value_blank Isin s = refl
no_value_blank Term s = rw (no_unit_blank s)

no_value_empty : (holds : Holds) → is_value holds [] ≡ false
unfolding shape one_of
no_value_empty Isin = refl
no_value_empty Term = refl

module _ (holds : Holds) where
  pub value_begins : (s rest : List ℕ) → is_value holds s ≡ true → spaces_in (s ++ rest) ≡ 0
  unfolding in_front
  value_begins [] rest e = clash e (no_value_empty holds)
  value_begins (b ∷ s) rest e = by_test (range "  " b) (λ p. clash e (rw (space_is b p) (no_value_blank holds s))) (λ p. rw p)

  pub value_some : (s : List ℕ) → is_value holds s ≡ true → not (eqb (length s) 0) ≡ true
  value_some [] e = clash e (no_value_empty holds)
  value_some (b ∷ s) e = rw (eqb-suc-zero (length s))

-- a value that is followed by no digit is read as far as it goes
pub value_size_lem : (holds : Holds) (s rest : List ℕ) → is_value holds s ≡ true → digits_in rest ≡ 0 → value_size holds (s ++ rest) ≡ length s
value_size_lem Isin s rest e f =
    let h : length s ≡ 12 = shape_long (ascii "uunnnnnnnnnd") s e in
    rw (take_at s rest 12 h, e, h)
value_size_lem Term s rest e f =
    let u : one_of 5 units (take 5 s) ≡ true = and_left (one_of 5 units (take 5 s)) (run_of Digit 1 3 (drop 5 s)) e in
    let h : 5 ≤ length s = omega (arith, one_long 5 units (take 5 s) u, length-take 5 s) in
    let r : run_of Digit 1 3 (drop 5 s) ≡ true = and_right (one_of 5 units (take 5 s)) (run_of Digit 1 3 (drop 5 s)) e in
    let d : all_of Digit (drop 5 s) ≡ true = and_right (one_to_three (length (drop 5 s))) (all_of Digit (drop 5 s)) r in
    let n : one_to_three (length (drop 5 s)) ≡ true = and_left (one_to_three (length (drop 5 s))) (all_of Digit (drop 5 s)) r in
    rw (take-append-le 5 s rest h, drop-append-le 5 s rest h, front_counts (range "09") (drop 5 s) rest (digits_count (drop 5 s) d) f, u, n) (omega (arith, length-drop 5 s))

-- what is read as a value is one
pub value_read : (holds : Holds) (s : List ℕ) → not (eqb (value_size holds s) 0) ≡ true → is_value holds (take (value_size holds s) s) ≡ true
value_read Isin s e = go (isin_shaped (take 12 s)) refl e
  where
    go : (t : Bool) → isin_shaped (take 12 s) ≡ t → not (eqb (cond t 12 0) 0) ≡ true → isin_shaped (take (cond t 12 0) s) ≡ true
    go true f g = f
    go false f g = clash g refl
value_read Term s e = go (one_of 5 units (take 5 s) && one_to_three (digits_in (drop 5 s))) refl e
  where
    go : (t : Bool) → (one_of 5 units (take 5 s) && one_to_three (digits_in (drop 5 s))) ≡ t → not (eqb (cond t (5 + digits_in (drop 5 s)) 0) 0) ≡ true
        → is_value Term (take (cond t (5 + digits_in (drop 5 s)) 0) s) ≡ true
    go true f g =
        let u : one_of 5 units (take 5 s) ≡ true = and_left (one_of 5 units (take 5 s)) _ f in
        let l : length (take 5 s) ≡ 5 = one_long 5 units (take 5 s) u in
        rw (take-add 5 (digits_in (drop 5 s)) s, take_at (take 5 s) (take (digits_in (drop 5 s)) (drop 5 s)) 5 l, drop_at (take 5 s) (take (digits_in (drop 5 s)) (drop 5 s)) 5 l, u)
        (digits_run (drop 5 s) (and_right (one_of 5 units (take 5 s)) _ f))
    go false f g = clash g refl
