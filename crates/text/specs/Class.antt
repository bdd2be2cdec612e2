-- The classes of bytes.
use Rattle.std.specs.Prelude.{ℕ, Bool, true, ◌&&◌, ◌||◌, List, [], ◌∷◌, leb, eqb, length, get_or}
use Prim.Native.String.{String}
use Rattle.text.specs.Ascii.{ascii}
use Rattle.text.specs.declared.classes.Class.{Class}
use Rattle.text.specs.declared.classes.Class.TheVariants.{Digit, Capital, CapitalDigit, Alphanumeric, Printable, CapitalHash, CapitalDigitMinus, CapitalDigitSign}

-- b is from the first to the second character of the text
abbrev pub range : String → ℕ → Bool
range s b = leb (get_or (ascii s) 0 0) b && leb b (get_or (ascii s) 1 0)

-- b is the character
abbrev pub is : String → ℕ → Bool
is s b = eqb b (get_or (ascii s) 0 0)

abbrev pub in_class : Class → ℕ → Bool
in_class Digit b = range "09" b
in_class Capital b = range "AZ" b
in_class CapitalDigit b = range "AZ" b || range "09" b
in_class Alphanumeric b = range "AZ" b || range "09" b || range "az" b
in_class Printable b = range " ~" b
in_class CapitalHash b = range "AZ" b || is "#" b
in_class CapitalDigitMinus b = range "AZ" b || range "09" b || is "-" b
in_class CapitalDigitSign b = range "AZ" b || range "09" b || is "-" b || is "+" b

-- every byte is of the class
unfoldable pub all_of : Class → List ℕ → Bool
all_of k [] = true
all_of k (b ∷ s) = in_class k b && all_of k s

-- from `least` to `most` bytes, all of the class
abbrev pub run_of : Class → ℕ → ℕ → List ℕ → Bool
run_of k least most s = leb least (length s) && leb (length s) most && all_of k s
