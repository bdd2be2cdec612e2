-- The lines of an input. LF ends a line and is dropped, with a CR before it; a last LF adds no line; a last line without LF keeps
-- its bytes, a CR too.
use Rattle.std.specs.Prelude.{ℕ, cond, List, [], ◌∷◌, ◌++◌, eqb}
use Rattle.checker.specs.Bare.{bare}

-- where the input ends, what has begun is a line, and nothing is none
unfoldable pub unended : List ℕ → List (List ℕ)
unended [] = []
unended (b ∷ begun) = (b ∷ begun) ∷ []

-- what has begun of a line, and the input behind it
unfoldable pub lines_from : List ℕ → List ℕ → List (List ℕ)
lines_from begun [] = unended begun
lines_from begun (b ∷ s) = cond (eqb b 10) (bare begun ∷ lines_from [] s) (lines_from (begun ++ (b ∷ [])) s)

abbrev pub lines_of : List ℕ → List (List ℕ)
lines_of input = lines_from [] input
