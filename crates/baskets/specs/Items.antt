-- An item and a basket in front of a text, with the number of bytes that they take. Where `good` is false, what else is told says nothing.
use Rattle.std.specs.Prelude.{ℕ, zero, suc, ◌+◌, Bool, true, false, cond, not, ◌&&◌, List, [], ◌∷◌, eqb, leb, get_or, take, drop}
use Prim.Native.String.{String}
use Rattle.text.specs.Ascii.{ascii}
use Rattle.text.specs.Class.{range, is}
use Rattle.text.specs.Word.{one_of}
use Rattle.text.specs.Number.{number_of}
use Rattle.ident.specs.Codes.{isin_shaped, isin_right}
use Rattle.baskets.specs.declared.items.Holds.{Holds}
use Rattle.baskets.specs.declared.items.Holds.TheVariants.{Isin, Term}

-- how many bytes in front pass the test; how many digits and spaces stand there
unfoldable pub in_front : (ℕ → Bool) → List ℕ → ℕ
in_front test [] = 0
in_front test (b ∷ s) = cond (test b) (suc (in_front test s)) 0

abbrev pub digits_in : List ℕ → ℕ
digits_in s = in_front (range "09") s

abbrev pub spaces_in : List ℕ → ℕ
spaces_in s = in_front (range "  ") s

abbrev pub one_to_three : ℕ → Bool
one_to_three n = leb 1 n && leb n 3

-- the character stands at a place
abbrev pub stands : String → ℕ → List ℕ → Bool
stands c at s = is c (get_or s at 0)

-- the words of a term
abbrev pub units : List ℕ
units = ascii "DAYS#WEEK#MNTH#YEAR#"

-- the value in front: an ISIN shape of 12 bytes; a term, one of the words and 1 to 3 digits. How long it is, 0 where there is none
abbrev pub value_size : Holds → List ℕ → ℕ
value_size Isin s = cond (isin_shaped (take 12 s)) 12 0
value_size Term s = cond (one_of 5 units (take 5 s) && one_to_three (digits_in (drop 5 s))) (5 + digits_in (drop 5 s)) 0

-- the check digit of an ISIN is right; a term has none
abbrev pub value_right : Holds → List ℕ → Bool
value_right Isin s = isin_right s
value_right Term s = true

pub record Item : Type 0 where
  pub good : Bool
  pub index : ℕ
  pub value : List ℕ
  pub size : ℕ

-- an index of n digits, a colon and spaces, up to the value
abbrev pub item_with : Holds → List ℕ → (n at : ℕ) → Item
item_with holds s n at =
    record {
      good = one_to_three n && stands ":" n s && not (eqb (value_size holds (drop at s)) 0);
      index = number_of (take n s);
      value = take (value_size holds (drop at s)) (drop at s);
      size = at + value_size holds (drop at s);
    }

unfoldable pub item_in : Holds → List ℕ → Item
item_in holds s = item_with holds s (digits_in s) (digits_in s + 1 + spaces_in (drop (digits_in s + 1) s))

-- values one behind the other, in what takes so many bytes
pub record Part : Type 0 where
  pub good : Bool
  pub values : List (List ℕ)
  pub size : ℕ

-- all check digits are right
unfoldable pub all_right : Holds → List (List ℕ) → Bool
all_right holds [] = true
all_right holds (v ∷ vs) = value_right holds v && all_right holds vs

abbrev pub none : Part
none = record { good = false; values = []; size = 0 }

-- a part that stands behind n bytes
abbrev pub behind : ℕ → Part → Part
behind n p = record { good = p.good; values = p.values; size = n + p.size }

-- an item, and what is found behind it
abbrev pub joined : Item → Part → Part
joined i p = record { good = p.good; values = i.value ∷ p.values; size = i.size + p.size }

-- from the end of an item: the closing brace, or a comma and spaces, behind which there is more
abbrev pub after_comma : List ℕ → ℕ
after_comma s = 1 + spaces_in (drop 1 s)

abbrev pub ended : List ℕ → Part → Part
ended s more =
    cond (stands "}" 0 s) (record { good = true; values = []; size = 1 })
    (cond (stands "," 0 s) (behind (after_comma s) more)
    none)

abbrev pub fitting : Item → ℕ → Bool
fitting i least = i.good && leb least i.index

-- up to `most` items whose indexes rise in value from `least` on, and the closing brace
unfoldable pub items_in : Holds → (most least : ℕ) → List ℕ → Part
items_in holds zero least s = none
items_in holds (suc most) least s =
    cond (fitting (item_in holds s) least)
    (joined (item_in holds s)
    (ended (drop (item_in holds s).size s)
    (items_in holds most (suc (item_in holds s).index) (drop (after_comma (drop (item_in holds s).size s)) (drop (item_in holds s).size s)))))
    none

-- braces around 1 to 16 items
unfoldable pub basket_in : Holds → List ℕ → Part
basket_in holds s = cond (stands "{" 0 s) (behind 1 (items_in holds 16 0 (drop 1 s))) none
