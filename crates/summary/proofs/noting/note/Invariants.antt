use Rattle.std.proofs.Common.{◌≡◌, ◌≤◌, length}
use Rattle.summary.specs.Noting.{most_records, entity_of}
use Rattle.summary.proofs.SearchLaws.{NotYet}
use Rattle.summary.proofs.noting.note.Given as goal

-- the records stay until the search stops
abbrev pub invariant-loop-i : goal.invariant-loop-i
invariant-loop-i l =
    (l.records ≡ l.initial.records) × (l.i-end ≤ length l.records) × (l.i-end ≤ most_records) × NotYet entity_of l.l.entity l.i-end l.records l.i
