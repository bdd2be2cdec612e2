-- A line noted in a table is one record put back: that where the search stops, with the line in it, or else the common one.
use Rattle.std.proofs.Common.{◌≡◌, ℕ, Bool, true, false, List, length}
use lib.Dec.{ltb}
use lib.ListN.{set, get_or}
use Rattle.verdict.specs.declared.Verdict.{Verdict}
use Rattle.summary.specs.declared.Line.{Line}
use Rattle.summary.specs.Counting.{entered_of, counted_of}
use Rattle.summary.specs.Judged.{line_of}
use Rattle.summary.specs.Noting.{free, reach_of, place_of, note_of}
use Rattle.table.specs.declared.Table.{Table}
use Rattle.table.specs.Noted.{noted}

module _ (t : Table) (line : List ℕ) (verdict : Verdict) where
  abbrev told : Line
  told = line_of line verdict

  abbrev place : ℕ
  place = place_of told.entity t.records

  pub noted_row : ltb place (reach_of (length t.records) told.entity) ≡ true
      → noted t line verdict ≡ record { records = set t.records place (entered_of (get_or t.records place free) told).after; common = t.common }
  unfolding noted note_of
  noted_row found = rw found

  pub noted_common : ltb place (reach_of (length t.records) told.entity) ≡ false
      → noted t line verdict ≡ record { records = t.records; common = (counted_of t.common told).after }
  unfolding noted note_of
  noted_common none = rw none
