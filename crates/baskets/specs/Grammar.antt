-- Cells 47 and 49 as the paper's words write them: every text that is put together from signs, items and spaces, with the values that stand in it.
use Rattle.std.specs.Prelude.{ℕ, suc, ◌≤◌, ◌≡◌, Bool, true, cond, not, ◌&&◌, List, [], ◌∷◌, ◌++◌, length, take, drop, replicate}
use Rattle.text.specs.Ascii.{ascii}
use Rattle.text.specs.Class.{run_of}
use Rattle.text.specs.declared.classes.Class.TheVariants.{Digit}
use Rattle.text.specs.Word.{one_of}
use Rattle.text.specs.Number.{numeral}
use Rattle.ident.specs.Codes.{isin_shaped}
use Rattle.baskets.specs.declared.items.Holds.{Holds}
use Rattle.baskets.specs.declared.items.Holds.TheVariants.{Isin, Term}
use Rattle.baskets.specs.declared.legs.Kind.{Kind}
use Rattle.baskets.specs.declared.legs.Kind.TheVariants.{Swap, Other}
use Rattle.baskets.specs.Items.{units}
use Rattle.baskets.specs.Underlying.{kind_word}

-- any number of spaces
abbrev pub spaces : ℕ → List ℕ
spaces n = replicate n 32

-- an ISIN shape; or one of DAYS#, WEEK#, MNTH#, YEAR# and 1 to 3 digits
abbrev pub is_value : Holds → List ℕ → Bool
is_value Isin s = isin_shaped s
is_value Term s = one_of 5 units (take 5 s) && run_of Digit 1 3 (drop 5 s)

-- an item: an index of 1 to 3 digits, a colon, spaces, a value
pub record ItemWords (holds : Holds) : Type 0 where
  pub digits : List ℕ
  pub gap : ℕ
  pub value : List ℕ
  pub is_index : run_of Digit 1 3 digits ≡ true
  pub holds_value : is_value holds value ≡ true

module _ {holds : Holds} where
  abbrev pub index_of : ItemWords holds → ℕ
  index_of i = numeral 0 i.digits

  abbrev pub item_text : ItemWords holds → List ℕ
  item_text i = i.digits ++ (ascii ":" ++ (spaces i.gap ++ i.value))

-- up to `most` items parted by commas, indexes rising in value from `least` on, and the closing brace
pub data ItemsWritten (holds : Holds) : (most least : ℕ) → List ℕ → List (List ℕ) → Type 0 where
  last : {most least : ℕ} (i : ItemWords holds) → least ≤ index_of i → ItemsWritten holds (suc most) least (item_text i ++ ascii "}") (i.value ∷ [])
  more :
      {most least : ℕ} {text : List ℕ} {values : List (List ℕ)} (i : ItemWords holds) (gap : ℕ) → least ≤ index_of i
      → ItemsWritten holds most (suc (index_of i)) text values
      → ItemsWritten holds (suc most) least (item_text i ++ (ascii "," ++ (spaces gap ++ text))) (i.value ∷ values)

abbrev pub sign_of : Bool → List ℕ
sign_of plus = cond plus (ascii "+") (ascii "-")

-- SWAP: one leg, or two with different signs. OTHR: one basket without a sign. Each basket holds 1 to 16 items
pub data LegsWritten (holds : Holds) : Kind → List ℕ → List (List ℕ) → Type 0 where
  one_leg : {text : List ℕ} {values : List (List ℕ)} (plus : Bool) → ItemsWritten holds 16 0 text values → LegsWritten holds Swap (sign_of plus ++ (ascii "{" ++ text)) values
  two_legs_of :
      {text text' : List ℕ} {values values' : List (List ℕ)} (plus : Bool) (gap : ℕ) → ItemsWritten holds 16 0 text values
      → ItemsWritten holds 16 0 text' values'
      → LegsWritten holds Swap ((sign_of plus ++ (ascii "{" ++ text)) ++ (ascii ";" ++ (spaces gap ++ (sign_of (not plus) ++ (ascii "{" ++ text'))))) (values ++ values')
  one_basket : {text : List ℕ} {values : List (List ℕ)} → ItemsWritten holds 16 0 text values → LegsWritten holds Other (ascii "{" ++ text) values

-- cell 49: at most 400 bytes
pub record TermsWritten (kind : Kind) (s : List ℕ) : Type 0 where
  pub values : List (List ℕ)
  pub written : LegsWritten Term kind s values
  pub short : length s ≤ 400

-- cell 47: the word, and at most 400 bytes behind it: spaces, then nothing or legs
pub data BehindWord (kind : Kind) : List ℕ → List (List ℕ) → Type 0 where
  bare : (gap : ℕ) → BehindWord kind (spaces gap) []
  legs : {text : List ℕ} {values : List (List ℕ)} (gap : ℕ) → LegsWritten Isin kind text values → BehindWord kind (spaces gap ++ text) values

pub record UnderlyingWritten (kind : Kind) (s : List ℕ) (values : List (List ℕ)) : Type 0 where
  pub text : List ℕ
  pub worded : s ≡ kind_word kind ++ text
  pub written : BehindWord kind text values
  pub short : length text ≤ 400
