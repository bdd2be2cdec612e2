-- Rows of numbers in bytes, each number with its least byte first.
use Rattle.std.specs.Prelude.{ℕ, zero, suc, List, [], ◌∷◌, ◌++◌, drop}
use Rattle.text.specs.Number.{little_endian}
use Rattle.register.specs.Written.{little_bytes}

-- each number in so many bytes
unfoldable pub each_in : ℕ → List ℕ → List ℕ
each_in width [] = []
each_in width (v ∷ vs) = little_bytes width v ++ each_in width vs

-- the first n numbers of two bytes each; a byte that is missing is 0
unfoldable pub entries_in : ℕ → List ℕ → List ℕ
entries_in zero s = []
entries_in (suc n) s = little_endian 2 s ∷ entries_in n (drop 2 s)
