-- Dates and moments in runs, and the bytes that stand for themselves in them.
use mathlib.Core.Path.{◌≡◌, refl}
use mathlib.Core.List.{List, [], ◌∷◌}
use Prim.Native.Nat.{ℕ}
use lib.Dec.{eqb}
use Rattle.text.specs.Shape.{suits}
use Rattle.text.proofs.RunLaws.{Run, digits, itself}

pub minus_letter : (b : ℕ) → suits 45 b ≡ eqb b 45
unfolding suits
minus_letter b = refl

pub point_letter : (b : ℕ) → suits 46 b ≡ eqb b 46
unfolding suits
point_letter b = refl

pub colon_letter : (b : ℕ) → suits 58 b ≡ eqb b 58
unfolding suits
colon_letter b = refl

pub t_letter : (b : ℕ) → suits 84 b ≡ eqb b 84
unfolding suits
t_letter b = refl

pub z_letter : (b : ℕ) → suits 90 b ≡ eqb b 90
unfolding suits
z_letter b = refl

-- yyyy-mm-dd
abbrev pub date_runs : List Run
date_runs = digits 4 ∷ itself 45 minus_letter ∷ digits 2 ∷ itself 45 minus_letter ∷ digits 2 ∷ []

-- yyyy-mm-ddThh:mm:ss
abbrev pub moment_runs : List Run
moment_runs =
    digits 4 ∷ itself 45 minus_letter ∷ digits 2 ∷ itself 45 minus_letter ∷ digits 2 ∷ itself 84 t_letter
    ∷ digits 2 ∷ itself 58 colon_letter ∷ digits 2 ∷ itself 58 colon_letter ∷ digits 2 ∷ []

-- Z, and a point, k digits, Z
abbrev pub z_runs : List Run
z_runs = itself 90 z_letter ∷ []

abbrev pub fraction_runs : ℕ → List Run
fraction_runs k = itself 46 point_letter ∷ digits k ∷ itself 90 z_letter ∷ []
