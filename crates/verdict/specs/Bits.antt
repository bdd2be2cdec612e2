-- The words of a verdict as flags again, and a list that goes on behind what is listed.
use Rattle.std.specs.Prelude.{ℕ, zero, suc, ◌+◌, ◌/◌, ◌%◌, ◌≡◌, Bool, cond, List, [], ◌∷◌, ◌++◌, eqb, ltb, length, take, drop}
use Rattle.verdict.specs.Verdict.{codes_found}
use Rattle.verdict.specs.Findings.{over}
use Rattle.verdict.specs.Counted.{bits_set}

-- the n lowest bits of a number, the lowest first
unfoldable pub bits_of : ℕ → ℕ → List Bool
bits_of zero w = []
bits_of (suc n) w = eqb (w % 2) 1 ∷ bits_of n (w / 2)

-- words of 64 flags each
unfoldable pub flags_in : List ℕ → List Bool
flags_in [] = []
flags_in (w ∷ words) = bits_of 64 w ++ flags_in words

-- the codes whose bits are set in words, in the first entries; a buffer with fewer entries than bits are set stays as it is
unfoldable pub listed_by : List ℕ → List ℕ → List ℕ
listed_by words entries = cond (ltb (length entries) (bits_set words)) entries (over (codes_found (flags_in words)) entries)

-- what is listed stands in the entries from n on; those before and behind it stay
unfoldable pub over_from : ℕ → List ℕ → List ℕ → List ℕ
over_from n listed entries = take n entries ++ over listed (drop n entries)

pub record Listed (listed : List ℕ) (start : ℕ) (before : List ℕ) (end : ℕ) (entries : List ℕ) : Type 0 where
  pub behind : end ≡ start + length listed
  pub entries_are : entries ≡ over_from start listed before
