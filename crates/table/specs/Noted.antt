-- A line noted in a table, by the verdict that it got; and the table before the first.
use Rattle.std.specs.Prelude.{ℕ, List, replicate}
use Rattle.verdict.specs.declared.Verdict.{Verdict}
use Rattle.summary.specs.Judged.{line_of}
use Rattle.summary.specs.Noting.{After, free, note_of}
use Rattle.table.specs.declared.Table.{Table}
use Rattle.table.specs.Rows.{record_count}

abbrev pub left : After → Table
left a = record { records = a.records; common = a.common }

unfoldable pub noted : Table → List ℕ → Verdict → Table
noted t line verdict = left (note_of t.records t.common (line_of line verdict))

-- all records free, and nothing counted
abbrev pub empty_table : Table
empty_table = record { records = replicate record_count free; common = free }
