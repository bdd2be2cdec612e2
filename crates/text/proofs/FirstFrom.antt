-- The first test of a list that holds: what one test decides.
use mathlib.Core.Path.{◌≡◌}
use mathlib.Core.Bool.{Bool, true, false}
use mathlib.Core.List.{List, ◌∷◌}
use Prim.Native.Nat.{ℕ, suc}
use Rattle.text.specs.FirstFrom.{first_from}

pub hit : (n : ℕ) (tests : List Bool) {t : Bool} → t ≡ true → n ≡ first_from n (t ∷ tests)
unfolding first_from
hit n tests e = rw e

pub skip : (n : ℕ) (tests : List Bool) {m : ℕ} {t : Bool} → t ≡ false → m ≡ first_from (suc n) tests → m ≡ first_from n (t ∷ tests)
unfolding first_from
skip n tests e p = rw e p
