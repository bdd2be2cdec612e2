-- Bytes that are kept one behind the other, as far as there is room.
use Rattle.std.specs.Prelude.{ℕ, ◌-◌, List, ◌++◌, length, take}

-- behind what is kept stand more, and what has no room is dropped
unfoldable pub added : ℕ → List ℕ → List ℕ → List ℕ
added room kept more = kept ++ take (room - length kept) more
