-- An item is read exactly where the grammar writes one.
use mathlib.Core.Path.{◌≡◌, ◌∙◌, sym, refl, ap}
use mathlib.Core.Bool.{true, not, ◌&&◌}
use mathlib.Core.List.{List, ◌∷◌, ◌++◌, append_assoc}
use Prim.Native.Nat.{ℕ, ◌+◌, ◌≤◌}
use native.Mathlib.Omega.{arith}
use borrow.Author.Tests.{leb-true}
use lib.Dec.{leb, eqb}
use lib.ListN.{length, take, drop, length-append, take-append-drop}
use lib.Seq.{take-append_seam, drop-append-add, get_or-append_seam, drop-drop}
use Rattle.text.specs.Class.{range, all_of}
use Rattle.text.specs.declared.classes.Class.TheVariants.{Digit}
use Rattle.text.specs.Number.{number_of}
use Rattle.text.proofs.Bools.{and_left, and_right}
use Rattle.text.proofs.NumberLaws.{number_short}
use Rattle.baskets.specs.declared.items.Holds.{Holds}
use Rattle.baskets.specs.Items.{Item, in_front, digits_in, spaces_in, one_to_three, value_size, item_in, stands}
use Rattle.baskets.specs.Grammar.{spaces, ItemWords, index_of, item_text}
use Rattle.baskets.proofs.FrontLaws.{front_counts, digits_count, digits_run, spaces_length, spaces_count, spaces_passed, index_begins, byte_and_spaces, value_begins, value_some, value_size_lem, value_read}

-- an item that is written, in front of any rest
module _ {holds : Holds} (i : ItemWords holds) where
  abbrev count : ℕ
  count = length i.digits

  count_fits : one_to_three count ≡ true
  count_fits = and_left (one_to_three count) (all_of Digit i.digits) i.is_index

  item_length : length (item_text i) ≡ count + 1 + i.gap + length i.value
  item_length =
      rw length-append (omega (arith, length-append (spaces i.gap) i.value, spaces_length i.gap))

  number_is : number_of i.digits ≡ index_of i
  number_is = let h : count ≤ 18 = omega (arith, leb-true count 3 (and_right (leb 1 count) (leb count 3) count_fits)) in sym (number_short i.digits h)

  module _ (rest : List ℕ) where
    abbrev colon : List ℕ
    colon = 58 ∷ (spaces i.gap ++ (i.value ++ rest))

    item_parts : item_text i ++ rest ≡ i.digits ++ colon
    item_parts = append_assoc i.digits _ rest ∙ ap (λ (t : List ℕ). i.digits ++ 58 ∷ t) (append_assoc (spaces i.gap) i.value rest)

    pub item_begins : spaces_in (item_text i ++ rest) ≡ 0
    item_begins = rw item_parts (index_begins i.digits colon i.is_index)

    digits_read : digits_in (i.digits ++ colon) ≡ count
    unfolding in_front
    digits_read = front_counts (range "09") i.digits colon (digits_count i.digits (and_right (one_to_three count) (all_of Digit i.digits) i.is_index)) refl

    gap_read : spaces_in (drop (count + 1) (i.digits ++ colon)) ≡ i.gap
    gap_read = rw (drop-append-add i.digits colon 1) (spaces_count i.gap (i.value ++ rest) (value_begins holds i.value rest i.holds_value))

    up_to_value : drop (count + 1 + i.gap) (i.digits ++ colon) ≡ i.value ++ rest
    up_to_value = sym (drop-drop i.gap (count + 1) (i.digits ++ colon)) ∙ rw (drop-append-add i.digits colon 1) (spaces_passed i.gap (i.value ++ rest))

    -- an item that is followed by no digit is read as far as it goes
    pub item_accepted : digits_in rest ≡ 0 → item_in holds (item_text i ++ rest) ≡ record { good = true; index = index_of i; value = i.value; size = length (item_text i) }
    unfolding item_in
    item_accepted ends =
        rw (
          item_parts,
          digits_read,
          gap_read,
          up_to_value,
          value_size_lem holds i.value rest i.holds_value ends,
          take-append_seam i.value rest,
          take-append_seam i.digits colon,
          get_or-append_seam i.digits 58 (spaces i.gap ++ (i.value ++ rest)) 0,
          number_is,
          count_fits,
          value_some holds i.value i.holds_value,
          item_length,
        )

-- the words of an item that was read
pub record ItemFound (holds : Holds) (s : List ℕ) (read : Item) : Type 0 where
  pub words : ItemWords holds
  pub index_is : index_of words ≡ read.index
  pub value_is : words.value ≡ read.value
  pub text_is : s ≡ item_text words ++ drop read.size s

-- an item that is read: its index, the spaces behind the colon, and its value
module _ (holds : Holds) (s : List ℕ) (good : (item_in holds s).good ≡ true) where
  abbrev index_size : ℕ
  index_size = digits_in s

  abbrev gap_size : ℕ
  gap_size = spaces_in (drop (index_size + 1) s)

  abbrev from_value : List ℕ
  from_value = drop (index_size + 1 + gap_size) s

  abbrev size : ℕ
  size = value_size holds from_value

  index_fits : one_to_three index_size ≡ true
  unfolding item_in
  index_fits = and_left (one_to_three index_size) (stands ":" index_size s) (and_left (one_to_three index_size && stands ":" index_size s) (not (eqb size 0)) good)

  colon_stands : stands ":" index_size s ≡ true
  unfolding item_in
  colon_stands = and_right (one_to_three index_size) (stands ":" index_size s) (and_left (one_to_three index_size && stands ":" index_size s) (not (eqb size 0)) good)

  some_value : not (eqb size 0) ≡ true
  unfolding item_in
  some_value = and_right (one_to_three index_size && stands ":" index_size s) (not (eqb size 0)) good

  found_words : ItemWords holds
  found_words =
      record {
        digits = take index_size s;
        gap = gap_size;
        value = take size from_value;
        is_index = digits_run s index_fits;
        holds_value = value_read holds from_value some_value;
      }

  value_then : from_value ≡ take size from_value ++ drop (index_size + 1 + gap_size + size) s
  value_then = sym (take-append-drop size from_value) ∙ rw (drop-drop size (index_size + 1 + gap_size) s)

  found_text : s ≡ item_text found_words ++ drop (index_size + 1 + gap_size + size) s
  unfolding found_words
  found_text =
      let behind : drop index_size s ≡ 58 ∷ ((spaces gap_size ++ take size from_value) ++ drop (index_size + 1 + gap_size + size) s) =
      byte_and_spaces s index_size 57 colon_stands ∙ ap (λ (t : List ℕ). 58 ∷ t) (ap (λ (t : List ℕ). spaces gap_size ++ t) value_then ∙ sym (append_assoc (spaces gap_size) _ _)) in
      sym (take-append-drop index_size s) ∙ ap (λ (t : List ℕ). take index_size s ++ t) behind ∙ sym (append_assoc (take index_size s) _ _)

  pub item_only : ItemFound holds s (item_in holds s)
  unfolding item_in found_words
  item_only =
      record {
        words = found_words;
        index_is = sym (number_is found_words);
        value_is = refl;
        text_is = found_text;
      }
