-- What the double-add-double check carries from digit to digit, read from the left. No public contract names it.
use Rattle.std.specs.Prelude.{ℕ, ◌+◌, ◌%◌, List, [], ◌∷◌}
use Rattle.ident.specs.declared.isins.Sums.{Sums}
use Rattle.ident.specs.Codes.{doubled}

-- one more digit: what stood last now stands before it, so the two sums change places
unfoldable pub with_digit : Sums → ℕ → Sums
with_digit x d = record { plain = (x.twice + d) % 10; twice = (x.plain + doubled d) % 10 }

unfoldable pub with_digits : Sums → List ℕ → Sums
with_digits x [] = x
with_digits x (d ∷ ds) = with_digits (with_digit x d) ds
