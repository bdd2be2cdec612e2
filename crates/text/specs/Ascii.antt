-- Text in a specification: `ascii "NEW"` is the list of its bytes, as `b"NEW"` is in the code.
use Rattle.std.specs.Prelude.{ℕ, List, [], ◌∷◌}
use Prim.Native.Char.{code}
use Prim.Native.String.{String, [] as []ᵀ, ◌∷◌ as ◌∷ᵀ◌}

abbrev pub ascii : String → List ℕ
ascii []ᵀ = []
ascii (c ∷ᵀ s) = code c ∷ ascii s
