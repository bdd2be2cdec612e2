-- A buffer that is filled from its start.
use Rattle.std.specs.Prelude.{ℕ, ◌+◌, min, max, ◌≡◌, List, ◌++◌, length, take, drop}

-- Behind the bytes kept before stand more, as far as there is room, and n bytes are kept now. What follows them stays.
pub record Kept (before : List ℕ) (kept : ℕ) (more after : List ℕ) (n : ℕ) : Type 0 where
  pub counts : n ≡ max kept (min (length before) (kept + length more))
  pub holds : after ≡ take (length before) (take kept before ++ more) ++ drop (kept + length more) before
