-- The number of the first test of a list that holds.
use Rattle.std.specs.Prelude.{ℕ, suc, Bool, true, false, List, [], ◌∷◌}

-- counted from n on; 0 where none holds
unfoldable pub first_from : ℕ → List Bool → ℕ
first_from n [] = 0
first_from n (true ∷ tests) = n
first_from n (false ∷ tests) = first_from (suc n) tests
