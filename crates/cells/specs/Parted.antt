-- A line is split into 65 cells, or not at all.
use Rattle.std.specs.Prelude.{ℕ, Option, None, Some, cond, eqb, List}
use Rattle.cells.specs.declared.line.SplitLine.{SplitLine}
use Rattle.cells.specs.Cells.{bars_of}
use Rattle.cells.specs.Split.{starts_of, ends_of}

-- the bytes of a line, and where its 65 cells start and end
pub record Places : Type 0 where
  pub line : List ℕ
  pub starts : List ℕ
  pub ends : List ℕ

abbrev pub in_places : Option SplitLine → Option Places
in_places None = None
in_places (Some t) = Some (record { line = t.line.now; starts = t.starts; ends = t.ends })

unfoldable pub split_of : List ℕ → Option Places
split_of s = cond (eqb (bars_of s) 64) (Some (record { line = s; starts = starts_of s; ends = ends_of s })) None
