use mathlib.Core.Path.{◌≡◌}
use lib.ListN.{drop}
use lib.Seq.{sets}
use Rattle.register.specs.Conversion.{undated}
use Rattle.register.proofs.conversion.write_rows.Given as goal

-- the first rows are written
abbrev pub invariant-loop-row : goal.invariant-loop-row
invariant-loop-row l = l.to ≡ sets l.initial.to 9 (undated l.row (drop 9 l.from))
