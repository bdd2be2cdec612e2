-- How many codes are found: as many as flags are set, and no more than a table holds.
use mathlib.Core.Path.{◌≡◌, refl}
use mathlib.Core.Bool.{Bool, true, false}
use mathlib.Core.List.{List, [], ◌∷◌, ◌++◌}
use Prim.Native.Nat.{ℕ, ◌+◌, ◌≤◌}
use native.Mathlib.Omega.{arith}
use lib.ListN.{length}
use Rattle.verdict.specs.Verdict.{pick}
use Rattle.verdict.specs.Counted.{flags_set}
use Rattle.verdict.proofs.BitLaws.{bit_small}

pub length_pick : (table : List ℕ) (flags : List Bool) → length table ≡ length flags → length (pick table flags) ≡ flags_set flags
unfolding pick flags_set
length_pick [] [] h = refl
length_pick [] (flag ∷ flags) h = absurd (omega arith)
length_pick (code ∷ table) [] h = absurd (omega arith)
length_pick (code ∷ table) (true ∷ flags) h = omega (arith, length_pick table flags (omega arith))
length_pick (code ∷ table) (false ∷ flags) h = omega (arith, length_pick table flags (omega arith))

-- a table takes no more than it holds
pub pick_short : (table : List ℕ) (flags : List Bool) → length (pick table flags) ≤ length table
unfolding pick
pick_short [] flags = omega arith
pick_short (code ∷ table) [] = omega arith
pick_short (code ∷ table) (true ∷ flags) = omega (arith, pick_short table flags)
pick_short (code ∷ table) (false ∷ flags) = omega (arith, pick_short table flags)

-- flags behind flags, and no more set than there are
pub set_append : (flags more : List Bool) → flags_set (flags ++ more) ≡ flags_set flags + flags_set more
unfolding flags_set
set_append [] more = omega arith
set_append (flag ∷ flags) more = omega (arith, set_append flags more)

pub set_most : (flags : List Bool) → flags_set flags ≤ length flags
unfolding flags_set
set_most [] = omega arith
set_most (flag ∷ flags) = omega (arith, bit_small flag, set_most flags)
