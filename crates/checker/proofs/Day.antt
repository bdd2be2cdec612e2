-- The table that the program prints is the summary of its lines: each number in it is the count of such lines of the input.
use mathlib.Core.Path.{◌≡◌, ◌∙◌, refl, subst}
use mathlib.Core.List.{List, [], ◌∷◌}
use Prim.Native.Nat.{ℕ, ◌+◌, ◌<◌}
use native.Mathlib.Omega.{arith}
use lib.ListN.{length, drop, replicate}
use Rattle.facts.specs.Call.{Call}
use Rattle.verdict.specs.Codes.{code_count}
use Rattle.judge.specs.Outcome.{Outcome, outcome}
use Rattle.summary.specs.declared.Record.{Record}
use Rattle.summary.specs.Counting.{top}
use Rattle.table.specs.declared.Table.{Table}
use Rattle.table.specs.Rows.{record_count}
use Rattle.table.specs.Noted.{noted, empty_table}
use Rattle.day.specs.Summary.{Handed, Run, Summary}
use Rattle.day.proofs.Summary.{day_summary}
use Rattle.day.proofs.Teeth.{empty, go_on}
use Rattle.checker.specs.Setting.{empty_register, called}
use Rattle.checker.specs.Lines.{lines_of}
use Rattle.checker.specs.Program.{judged, notes, table_after, history_from, history_of}
use Rattle.checker.proofs.AnswerLaws.{outcome_counted, listed_is}

module _ {start : List Record} where
  one_on : (line register : List ℕ) (t : Table) (earlier : List Handed) → Run start earlier t.records t.common
      → Run start (record { line = line; verdict = (judged line register).verdict; findings = (judged line register).listed } ∷ earlier)
      (noted t line (judged line register).verdict).records (noted t line (judged line register).verdict).common
  unfolding judged noted
  one_on line register t earlier run =
      let c : Call = called line register in
      let before : List ℕ = replicate code_count 0 in
      let o : Outcome = outcome c code_count in
      subst
      (λ (codes : List ℕ).
      Run start (record { line = line; verdict = o.verdict; findings = codes } ∷ earlier) (noted t line o.verdict).records
      (noted t line o.verdict).common)
      (listed_is {before = before} {register = o.register} (outcome_counted c code_count) (record { says = refl; lists = refl; keeps = refl }))
      (go_on run c before)

  all_on : (lines : List (List ℕ)) (register : List ℕ) (t : Table) (earlier : List Handed) → Run start earlier t.records t.common
      → Run start (history_from earlier register lines) (notes register t lines).records (notes register t lines).common
  unfolding history_from notes
  all_on [] register t earlier run = run
  all_on (line ∷ lines) register t earlier run =
      all_on lines (judged line register).register (noted t line (judged line register).verdict) _ (one_on line register t earlier run)

as_many : (lines : List (List ℕ)) (register : List ℕ) (earlier : List Handed) → length (history_from earlier register lines) ≡ length earlier + length lines
unfolding history_from
as_many [] register earlier = omega arith
as_many (line ∷ lines) register earlier = as_many lines (judged line register).register _ ∙ omega arith

pub program_summary : (input : List ℕ) → length (drop 1 (lines_of input)) < top
    → Summary record_count empty_table.records (history_of input) (table_after input).records (table_after input).common
unfolding table_after
program_summary input fits =
    day_summary empty_table.records (all_on (drop 1 (lines_of input)) empty_register empty_table [] (empty record_count))
    (omega (arith, as_many (drop 1 (lines_of input)) empty_register []))
