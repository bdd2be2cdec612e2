-- What a verdict says of the flags, one for each code in the order of the codes.
use Rattle.std.specs.Prelude.{ℕ, zero, suc, ◌+◌, ◌*◌, Bool, true, false, List, [], ◌∷◌, length, take, drop}
use Rattle.verdict.specs.declared.Verdict.{Verdict}
use Rattle.verdict.specs.Codes.{codes}

abbrev pub bit : Bool → ℕ
bit false = 0
bit true = 1

-- flags as binary digits, the first flag the lowest
unfoldable pub word_of : List Bool → ℕ
word_of [] = 0
word_of (flag ∷ flags) = bit flag + 2 * word_of flags

-- n words of 64 flags each
abbrev pub words : ℕ → List Bool → List ℕ
words zero flags = []
words (suc n) flags = word_of (take 64 flags) ∷ words n (drop 64 flags)

abbrev pub keep : Bool → ℕ → List ℕ → List ℕ
keep true code listed = code ∷ listed
keep false code listed = listed

-- the codes of a table whose flags are set
unfoldable pub pick : List ℕ → List Bool → List ℕ
pick [] flags = []
pick (code ∷ table) [] = []
pick (code ∷ table) (flag ∷ flags) = keep flag code (pick table flags)

abbrev pub codes_found : List Bool → List ℕ
codes_found flags = pick codes flags

-- a line that is judged: the answer is 0, and n is how many codes are listed
unfoldable pub verdict_of : List Bool → Verdict
verdict_of flags = record { answer = 0; count = length (codes_found flags); words = words 3 flags }

-- a refusal: its number, count 0 and zero words
unfoldable pub refused_by : ℕ → Verdict
refused_by number = record { answer = number; count = 0; words = 0 ∷ 0 ∷ 0 ∷ [] }
