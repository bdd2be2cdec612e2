-- Fixed shapes: a pattern has one letter for each byte.
use Rattle.std.specs.Prelude.{ℕ, Bool, true, false, cond, not, ◌&&◌, ◌||◌, List, [], ◌∷◌, eqb}
use Rattle.text.specs.declared.classes.Class.TheVariants.{Digit, Capital, CapitalDigit, CapitalHash}
use Rattle.text.specs.Class.{in_class, is, range}

-- d a digit, u or * a capital, n a capital or digit, h a capital or #; what else is no small letter stands for itself
unfoldable pub suits : ℕ → ℕ → Bool
suits letter b =
    cond (is "d" letter) (in_class Digit b)
    (cond (is "u" letter || is "*" letter) (in_class Capital b)
    (cond (is "n" letter) (in_class CapitalDigit b)
    (cond (is "h" letter) (in_class CapitalHash b)
    (not (range "az" letter) && eqb b letter))))

-- as long as the pattern, each byte suiting its letter
unfoldable pub shape : List ℕ → List ℕ → Bool
shape [] [] = true
shape [] (b ∷ s) = false
shape (letter ∷ pattern) [] = false
shape (letter ∷ pattern) (b ∷ s) = suits letter b && shape pattern s
