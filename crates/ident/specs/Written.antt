-- The number that digits and capitals write, as ISO 17442 and ISO 6166 read them: A = 10 to Z = 35.
use Rattle.std.specs.Prelude.{ℕ, ◌+◌, ◌*◌, ◌-◌, ◌/◌, ◌%◌, cond, List, [], ◌∷◌, ◌++◌, ltb, get_or}
use Rattle.text.specs.Ascii.{ascii}
use Rattle.text.specs.Class.{in_class}
use Rattle.text.specs.declared.classes.Class.TheVariants.{Capital}
use Rattle.text.specs.Number.{digit_of}

-- what a character counts: 0 where it is neither digit nor capital
unfoldable pub value_of : ℕ → ℕ
value_of b = cond (in_class Capital b) (b - get_or (ascii "A") 0 0 + 10) (digit_of b)

-- a value below 100 in decimal: two digits from 10 on
unfoldable pub digits_of : ℕ → List ℕ
digits_of v = cond (ltb v 10) (v ∷ []) (v / 10 ∷ v % 10 ∷ [])

-- the digits that the characters write
unfoldable pub written_digits : List ℕ → List ℕ
written_digits [] = []
written_digits (b ∷ s) = digits_of (value_of b) ++ written_digits s

-- the number that digits write on behind those that stand for k
unfoldable pub decimal : ℕ → List ℕ → ℕ
decimal k [] = k
decimal k (d ∷ ds) = decimal (k * 10 + d) ds

-- the number that the characters write
abbrev pub written : List ℕ → ℕ
written s = decimal 0 (written_digits s)
