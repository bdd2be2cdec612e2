-- The 73 bytes of a pair: entity 20, length of the reference 1, reference 52 zero-filled.
use Rattle.std.specs.Prelude.{ℕ, ◌-◌, min, List, ◌∷◌, ◌++◌, length, take, replicate}

-- the first w bytes of s, filled with zeros up to w
unfoldable pub filled : ℕ → List ℕ → List ℕ
filled w s = take w s ++ replicate (w - length s) 0

-- for an entity of 20 bytes and a reference of 1 to 52; longer ones are cut, a shorter entity is filled as the reference is
unfoldable pub pair_bytes : List ℕ → List ℕ → List ℕ
pair_bytes entity reference = filled 20 entity ++ (min (length reference) 52 ∷ filled 52 reference)
