-- Digits at fixed places of a cell. No public contract names them.
use Rattle.std.specs.Prelude.{ℕ, ◌+◌, Bool, true, ◌&&◌, List, [], ◌∷◌, get_or}
use Rattle.text.specs.declared.classes.Class.TheVariants.{Digit}
use Rattle.text.specs.Class.{in_class}

-- the bytes at these places are digits
abbrev pub digits_at : List ℕ → List ℕ → Bool
digits_at [] s = true
digits_at (i ∷ places) s = in_class Digit (get_or s i 0) && digits_at places s

-- at a place and the next
unfoldable pub pair_at : ℕ → List ℕ → Bool
pair_at at s = digits_at (at ∷ (at + 1) ∷ []) s

-- of yyyy-mm-dd
abbrev pub date_places : List ℕ
date_places = 0 ∷ 1 ∷ 2 ∷ 3 ∷ 5 ∷ 6 ∷ 8 ∷ 9 ∷ []

-- of yyyy-mm-ddThh:mm:ss, those of hh:mm:ss
abbrev pub time_places : List ℕ
time_places = 11 ∷ 12 ∷ 14 ∷ 15 ∷ 17 ∷ 18 ∷ []
