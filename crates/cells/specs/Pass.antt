-- The pass over a line by which it is split, as the private contracts say it.
use Rattle.std.specs.Prelude.{ℕ, ◌+◌, ◌≤◌, ◌≡◌, List, ◌++◌, length, take, drop}
use Rattle.cells.specs.Cells.{bars_of}
use Rattle.cells.specs.Split.{bar_places}

-- up to place i: how many bars are met, and that their places stand first in `places`
pub record Met (line places : List ℕ) (bars i : ℕ) : Type 0 where
  pub within : i ≤ length line
  pub wide : length places ≡ 80
  pub count : bars + bars_of (drop i line) ≡ bars_of line
  pub first : take bars places ++ bar_places i (drop i line) ≡ bar_places 0 line

-- n more bytes can be walked ..
pub record Ahead (n : ℕ) (line places : List ℕ) (bars i : ℕ) : Type 0 where
  pub met : Met line places bars i
  pub bytes : i + n ≤ length line
  pub entries : bars + n ≤ 80

-- .. and are: they were at most n bars
pub record Walked (n : ℕ) (line places : List ℕ) (before bars i : ℕ) : Type 0 where
  pub met : Met line places bars (i + n)
  pub few : bars ≤ before + n

-- the pass is over: the bars are 64 exactly if the line's are
pub record Over (line places : List ℕ) (bars : ℕ) : Type 0 where
  pub whole : bars ≡ 64 → Met line places 64 (length line)
  pub other : (bars ≡ 64 → ⊥) → bars_of line ≡ 64 → ⊥
