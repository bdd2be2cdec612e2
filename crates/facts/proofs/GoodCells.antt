-- What is good, one place behind what is found.
use mathlib.Core.Path.{◌≡◌, refl}
use mathlib.Core.Bool.{Bool, false, not}
use mathlib.Core.List.{List, [], ◌∷◌, map}
use Prim.Native.Nat.{ℕ, zero, suc, ◌+◌, ◌<◌}
use native.Mathlib.Numerals.{add-one}
use native.Mathlib.Omega.{arith}
use lib.ListN.{length, get_or}

not_at : (found : List Bool) (i : ℕ) → i < length found → not (get_or found i false) ≡ get_or (map not found) i false
not_at [] i h = absurd (omega arith)
not_at (b ∷ found) zero h = refl
not_at (b ∷ found) (suc i) h = not_at found i (omega arith)

pub good_at : (found : List Bool) (i : ℕ) → i < length found → not (get_or found i false) ≡ get_or (false ∷ map not found) (i + 1) false
good_at found i h = rw add-one (not_at found i h)
