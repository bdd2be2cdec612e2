-- Cell 47, and cell 49 by what 47 is.
use Rattle.std.specs.Prelude.{ℕ, Bool, true, false, cond, not, ◌&&◌, List, [], leb, length, drop}
use Rattle.text.specs.Ascii.{ascii}
use Rattle.text.specs.Word.{blank, starts_with}
use Rattle.baskets.specs.declared.items.Holds.TheVariants.{Isin, Term}
use Rattle.baskets.specs.declared.legs.Kind.{Kind}
use Rattle.baskets.specs.declared.legs.Kind.TheVariants.{Swap, Other, Malformed}
use Rattle.baskets.specs.declared.underlying.Underlying.{Underlying}
use Rattle.baskets.specs.Items.{Part, all_right}
use Rattle.baskets.specs.Legs.{past_spaces, legs_in}

-- the paper's word for each kind; what is malformed has none
abbrev pub kind_word : Kind → List ℕ
kind_word Swap = ascii "SWAP:"
kind_word Other = ascii "OTHR:"
kind_word Malformed = []

unfoldable pub kind_named : List ℕ → Kind
kind_named s = cond (starts_with (kind_word Swap) s) Swap (cond (starts_with (kind_word Other) s) Other Malformed)

-- what stands behind the colon and its spaces: nothing, or legs
abbrev pub behind_word : List ℕ → List ℕ
behind_word s = drop (past_spaces 4 s) s

abbrev pub legs_from : Kind → List ℕ → Part
legs_from kind s = cond (blank s) (record { good = true; values = []; size = 0 }) (legs_in kind Isin s)

-- the ISINs of cell 47
abbrev pub isins_in : List ℕ → List (List ℕ)
isins_in s = (legs_from (kind_named s) (behind_word s)).values

-- 47: SWAP: or OTHR:, then nothing or legs, at most 400 bytes with the spaces
unfoldable pub underlying_of : List ℕ → Underlying
underlying_of s =
    record {
      kind = cond ((legs_from (kind_named s) (behind_word s)).good && leb (length (drop 5 s)) 400) (kind_named s) Malformed;
      legs = not (blank (behind_word s));
      right = all_right Isin (isins_in s);
    }

abbrev pub is_underlying : Kind → Bool
is_underlying Swap = true
is_underlying Other = true
is_underlying Malformed = false

-- 49: legs of terms, of the kind that 47 is, at most 400 bytes
unfoldable pub terms_fit : Kind → List ℕ → Bool
terms_fit kind s = leb (length s) 400 && (legs_in kind Term s).good
