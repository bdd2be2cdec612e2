-- What the program judges with: five lists of count 0, a register empty at first with c = 4, day 20250322 and microsecond 43,200,000,000,
-- Polish identifiers not asked for.
use Rattle.std.specs.Prelude.{ℕ, false, List, [], ◌∷◌, ◌++◌, replicate}
use Prim.Native.String.{String}
use Rattle.text.specs.Ascii.{ascii}
use Rattle.facts.specs.Call.{Call, call}

-- a mark, version 1, count 0
abbrev pub empty_list : String → List ℕ
empty_list mark = ascii mark ++ (1 ∷ 0 ∷ 0 ∷ 0 ∷ 0 ∷ 0 ∷ [])

-- mark, version 1, no rows used, and zeros where 4 rows of 74 bytes fit
abbrev pub empty_register : List ℕ
empty_register = empty_list "TRN" ++ replicate 296 0

abbrev pub called : List ℕ → List ℕ → Call
called line register =
    call line (empty_list "LEI") (empty_list "CTY") (empty_list "CCY") (empty_list "VEN") (empty_list "INS") register 20250322 43200000000 false
