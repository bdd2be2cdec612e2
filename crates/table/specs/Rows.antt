-- A table by rows: those of its records, and behind them that of the common one.
use Rattle.std.specs.Prelude.{ℕ, cond, List, ltb, length, get_or}
use Rattle.summary.specs.declared.Record.{Record}
use Rattle.summary.specs.Noting.{most_records, free}
use Rattle.table.specs.declared.Table.{Table}

-- so many records, and the common one behind them
abbrev pub record_count : ℕ
record_count = most_records

unfoldable pub record_at : Table → ℕ → Record
record_at t i = cond (ltb i record_count) (get_or t.records i free) t.common

-- the same of as many records as there are
unfoldable pub record_in : List Record → Record → ℕ → Record
record_in records common i = cond (ltb i (length records)) (get_or records i free) common
