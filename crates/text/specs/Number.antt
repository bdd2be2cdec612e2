-- Numbers in decimal digits, and in bytes, least first.
use Rattle.std.specs.Prelude.{ℕ, zero, suc, ◌+◌, ◌*◌, ◌-◌, cond, List, [], ◌∷◌, leb, length, get_or, drop, map}
use Rattle.std.specs.List.{range_with_len}
use Rattle.text.specs.declared.classes.Class.TheVariants.{Digit}
use Rattle.text.specs.Class.{in_class}

-- n numbers that follow one another, the first k
abbrev pub count_from : ℕ → ℕ → List ℕ
count_from k zero = []
count_from k (suc n) = k ∷ count_from (suc k) n

-- what a byte counts as a digit: 0 where it is none
unfoldable pub digit_of : ℕ → ℕ
digit_of b = cond (in_class Digit b) (b - 48) 0

-- the digits of s, written on behind those that stand for k
unfoldable pub numeral : ℕ → List ℕ → ℕ
numeral k [] = k
numeral k (b ∷ s) = numeral (k * 10 + digit_of b) s

-- the number that at most 18 digits write; 0 where there are more
unfoldable pub number_of : List ℕ → ℕ
number_of s = cond (leb (length s) 18) (numeral 0 s) 0

-- the number that the first two, four, eight digits write
unfoldable pub two_digits : List ℕ → ℕ
two_digits s = digit_of (get_or s 0 0) * 10 + digit_of (get_or s 1 0)

unfoldable pub four_digits : List ℕ → ℕ
four_digits s = two_digits s * 100 + two_digits (drop 2 s)

unfoldable pub eight_digits : List ℕ → ℕ
eight_digits s = four_digits s * 10000 + four_digits (drop 4 s)

-- the first n bytes; one that is missing is 0
abbrev pub first_bytes : ℕ → List ℕ → List ℕ
first_bytes n s = map (λ i. get_or s i 0) (range_with_len 0 n)

-- the number that the first n bytes write, least first; a byte that is missing is 0
abbrev pub little_endian : ℕ → List ℕ → ℕ
little_endian zero s = 0
little_endian (suc n) s = get_or s 0 0 + 256 * little_endian n (drop 1 s)
