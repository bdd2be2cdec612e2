-- What the program writes for a whole input: line one is skipped, and for each other line its number, answer, n and codes are
-- printed. The register is empty at first, and each line is judged over the one that the line before it left. Each of these lines is noted
-- in the table of the day's summary.
use Rattle.std.specs.Prelude.{ℕ, ◌+◌, List, [], ◌∷◌, ◌++◌, drop}
use Rattle.verdict.specs.Codes.{code_count}
use Rattle.judge.specs.Outcome.{Outcome, outcome}
use Rattle.day.specs.Summary.{Handed}
use Rattle.table.specs.declared.Table.{Table}
use Rattle.table.specs.Noted.{noted, empty_table}
use Rattle.checker.specs.Setting.{empty_register, called}
use Rattle.checker.specs.Lines.{lines_of}
use Rattle.printing.specs.Printed.{printed}
use Rattle.printing.specs.Report.{summary_text}

-- what is printed for an outcome
abbrev pub answer_to : ℕ → Outcome → List ℕ
answer_to number o = printed number o.verdict.answer o.verdict.count o.listed

unfoldable pub judged : List ℕ → List ℕ → Outcome
judged line register = outcome (called line register) code_count

unfoldable pub answers : ℕ → List ℕ → List (List ℕ) → List ℕ
answers number register [] = []
answers number register (line ∷ lines) =
    answer_to number (judged line register) ++ answers (number + 1) (judged line register).register lines

unfoldable pub program_writes : List ℕ → List ℕ
program_writes input = answers 2 empty_register (drop 1 (lines_of input))

unfoldable pub notes : List ℕ → Table → List (List ℕ) → Table
notes register table [] = table
notes register table (line ∷ lines) = notes (judged line register).register (noted table line (judged line register).verdict) lines

unfoldable pub table_after : List ℕ → Table
table_after input = notes empty_register empty_table (drop 1 (lines_of input))

-- all that is written where the summary is asked for
abbrev pub program_reports : List ℕ → List ℕ
program_reports input = program_writes input ++ summary_text (table_after input)

-- the lines as the history of a day, the latest first, each with its verdict and its codes
unfoldable pub history_from : List Handed → List ℕ → List (List ℕ) → List Handed
history_from earlier register [] = earlier
history_from earlier register (line ∷ lines) =
    history_from (record { line = line; verdict = (judged line register).verdict; findings = (judged line register).listed } ∷ earlier)
    (judged line register).register lines

abbrev pub history_of : List ℕ → List Handed
history_of input = history_from [] empty_register (drop 1 (lines_of input))
