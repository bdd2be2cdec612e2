-- The words in which the promises about a verdict are said.
use Rattle.std.specs.Prelude.{ℕ, ◌+◌, ◌/◌, ◌%◌, ◌^◌, Bool, true, ◌&&◌, List, [], ◌∷◌, eqb, ltb, get_or}
use Rattle.std.specs.Int.Count.{ones}
use Rattle.verdict.specs.Verdict.{bit}

-- how many flags are set
unfoldable pub flags_set : List Bool → ℕ
flags_set [] = 0
flags_set (flag ∷ flags) = bit flag + flags_set flags

-- how many bits are set in words
abbrev pub bits_set : List ℕ → ℕ
bits_set [] = 0
bits_set (word ∷ words) = ones word + bits_set words

-- bit j of words of 64 bits, counted from the lowest bit of the first
abbrev pub bit_at : List ℕ → ℕ → ℕ
bit_at words j = get_or words (j / 64) 0 / 2 ^ (j % 64) % 2

-- each number is over the one before it, and the first over a
unfoldable pub rising_over : ℕ → List ℕ → Bool
rising_over a [] = true
rising_over a (x ∷ xs) = ltb a x && rising_over x xs

-- how often x stands in a list
unfoldable pub times : ℕ → List ℕ → ℕ
times x [] = 0
times x (y ∷ ys) = bit (eqb x y) + times x ys
