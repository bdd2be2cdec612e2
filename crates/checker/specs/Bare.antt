-- A line whose LF is dropped, without a CR at its end.
use Rattle.std.specs.Prelude.{ℕ, cond, List, [], ◌∷◌, eqb}

unfoldable pub bare : List ℕ → List ℕ
bare [] = []
bare (b ∷ []) = cond (eqb b 13) [] (b ∷ [])
bare (b ∷ c ∷ s) = b ∷ bare (c ∷ s)
