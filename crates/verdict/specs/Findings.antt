-- The findings buffer after a line is judged, and how groups of flags come together.
use Rattle.std.specs.Prelude.{ℕ, ◌+◌, Bool, cond, List, ◌++◌, leb, length, take, drop}
use Rattle.verdict.specs.Codes.{code_count}

-- what is listed stands in the first entries; later entries stay
abbrev pub over : List ℕ → List ℕ → List ℕ
over listed entries = listed ++ drop (length listed) entries

-- the flags with a group in place of those from `start` on; a group that goes past the last code changes none
unfoldable pub put : List Bool → ℕ → List Bool → List Bool
put flags start group = cond (leb (start + length group) code_count) (take start flags ++ group ++ drop (start + length group) flags) flags
