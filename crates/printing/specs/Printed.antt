-- What is printed for a line: its number, the answer, n and the codes, in decimal with single spaces, then LF.
use Rattle.std.specs.Prelude.{ℕ, zero, suc, ◌+◌, ◌*◌, ◌/◌, ◌%◌, cond, List, [], ◌∷◌, ◌++◌, ltb}
use Rattle.verdict.specs.Codes.{code_count}

-- the digits of a number that has at most f
unfoldable pub digits_of : ℕ → ℕ → List ℕ
digits_of zero n = []
digits_of (suc f) n = cond (ltb n 10) ((48 + n) ∷ []) (digits_of f (n / 10) ++ ((48 + n % 10) ∷ []))

-- in decimal: numbers of 64 bits have at most 20 digits
abbrev pub decimal : ℕ → List ℕ
decimal n = digits_of 20 n

-- each number behind a space
unfoldable pub spaced : List ℕ → List ℕ
spaced [] = []
spaced (n ∷ ns) = (32 ∷ decimal n) ++ spaced ns

unfoldable pub printed : ℕ → ℕ → ℕ → List ℕ → List ℕ
printed number answer count codes = decimal number ++ (spaced (answer ∷ count ∷ codes) ++ (10 ∷ []))

-- what `printed` takes at most: the three and a number for each code, of up to 20 digits and each but the first behind a space, and LF
abbrev pub longest : ℕ
longest = 21 * (3 + code_count)
