-- Whatever pieces the input comes in, what the program's functions hand to the write is, joined, what the paper has it write, with the
-- summary and without.
use mathlib.Core.Path.{◌≡◌, ◌∙◌, refl, sym, ap}
use mathlib.Core.Bool.{Bool, true, false, cond}
use mathlib.Core.List.{List, [], ◌∷◌, ◌++◌, flatten, append-nil, append_assoc}
use Prim.Native.Nat.{ℕ, ◌+◌, ◌≤◌, ◌<◌}
use native.Mathlib.Omega.{arith}
use lib.Dec.{eqb, leb}
use lib.ListN.{length, take, drop}
use borrow.Author.Tests.{lt-leb, lt-ltb, leb-true}
use contract.Lifetimes.{Lfts}
use denote.Triple.Clauses.{AtExit}
use borrow.Fn.Kinds.{Dens, res_t, ended_of}
use Rattle.text.proofs.Bools.{by_test}
use mir.Syntax.{w64}
use mir.Val.{Fits}
use Rattle.buffer.proofs.KeptLaws.{take_again}
use Rattle.judge.specs.Outcome.{Outcome}
use Rattle.table.specs.declared.Table.{Table}
use Rattle.table.specs.Rows.{record_count}
use Rattle.table.specs.Noted.{empty_table}
use Rattle.checker.specs.Setting.{empty_register}
use Rattle.checker.specs.Bare.{bare}
use Rattle.checker.specs.Lines.{unended, lines_from}
use Rattle.printing.specs.Printed.{longest}
use Rattle.checker.specs.Program.{answer_to, judged, answers, program_writes, table_after, program_reports}
use Rattle.checker.specs.declared.progress.Progress.{Progress}
use Rattle.checker.specs.Progress.{progress, start, told, left, entered, room, raised, ended, more, after, writes, last_answer, last_table, writes_all, Finished, Run, begins, turn}
use Rattle.printing.specs.Report.{summary_text, part_of, Put, Reporting, row}
use Rattle.buffer.proofs.TextLaws.{added_all}
use Rattle.checker.proofs.ProgressLaws.{after_append, writes_append}
use Rattle.checker.proofs.Enough.{kept_ended, kept_last}
use Rattle.printing.proofs.RowLaws.{reported}
use Rattle.checker.proofs.TableLaws.{input_noted}
use Rattle.checker.proofs.progress.Progress.advance.Kinds as advance_kinds
use Rattle.checker.proofs.progress.Progress.advance.Reads as advance_reads
use Rattle.checker.proofs.progress.Progress.finish.Kinds as finish_kinds
use Rattle.checker.proofs.progress.Progress.finish.Reads as finish_reads
use Rattle.printing.proofs.keep_row.Kinds as keep_row_kinds
use Rattle.printing.proofs.keep_row.Reads as keep_row_reads
use Rattle.printing.proofs.push_row.Kinds as push_row_kinds
use Rattle.printing.proofs.push_row.Reads as push_row_reads
use Rattle.printing.proofs.put_row.Kinds as put_row_kinds
use Rattle.printing.proofs.put_row.Reads as put_row_reads

-- the answers to the lines from a number on, of which line one has none
abbrev behind : ℕ → List ℕ → List (List ℕ) → List ℕ
behind number register lines = cond (leb number 1) (answers 2 register (drop 1 lines)) (answers number register lines)

none_behind : (number : ℕ) (register : List ℕ) → [] ≡ behind number register []
unfolding answers
none_behind number register = by_test (leb number 1) (λ t. rw t) (λ t. rw t)

-- one line and those behind it: what is kept of it has its outcome
one_line : (number : ℕ) (kept line register : List ℕ) (lines : List (List ℕ)) → 1 ≤ number → judged kept register ≡ judged line register
    → told number kept register ++ answers (number + 1) (left number kept register) lines ≡ behind number register (line ∷ lines)
unfolding told left answers
one_line number kept line register lines h e =
    ap
    (λ (o : Outcome). cond (leb number 1) [] (answer_to number o) ++ answers (number + 1) (cond (leb number 1) register o.register) lines) e
    ∙ go (leb number 1) refl
  where
    go : (t : Bool) → leb number 1 ≡ t
        → cond t [] (answer_to number (judged line register)) ++ answers (number + 1) (cond t register (judged line register).register) lines
        ≡ cond t (answers 2 register lines) (answer_to number (judged line register) ++ answers (number + 1) (judged line register).register lines)
    go true t =
        let second : number + 1 ≡ 2 = omega (arith, leb-true number 1 t) in
        ap (λ (n : ℕ). answers n register lines) second
    go false t = refl

-- all that is written for some bytes, the end of the input behind them
abbrev total : Progress → List ℕ → List ℕ
total p s = writes p s ++ last_answer (after p s)

at_end : (whole : List ℕ) (number : ℕ) (register : List ℕ) (table : Table) → 1 ≤ number
    → last_answer (progress (take room whole) number register table) ≡ behind number register (unended whole)
unfolding unended answers
at_end [] number register table h = none_behind number register
at_end (b ∷ s) number register table h =
    ap (λ (t : Bool). cond t (told number (take room (b ∷ s)) register) []) (lt-ltb 0 (length (take room (b ∷ s))) (omega arith))
    ∙ sym (append-nil (told number (take room (b ∷ s)) register))
    ∙ one_line number (take room (b ∷ s)) (b ∷ s) register [] h (kept_last (b ∷ s) register).outcome_is

-- one byte, which is LF or is not, by what is written for those behind it
module _ (b : ℕ) (s whole : List ℕ) (number : ℕ) (register : List ℕ) (table : Table) where
  abbrev now : Progress
  now = progress (take room whole) number register table

  abbrev here : List ℕ
  here = told number (bare (take room whole)) register

  abbrev next : List ℕ
  next = left number (bare (take room whole)) register

  abbrev next_table : Table
  next_table = entered number (bare (take room whole)) register table

  abbrev by_byte : Bool → List ℕ
  by_byte t = (cond t here [] ++ writes (cond t (ended now) (more now b)) s) ++ last_answer (after (cond t (ended now) (more now b)) s)

  abbrev lines_by : Bool → List ℕ
  lines_by t = behind number register (cond t (bare whole ∷ lines_from [] s) (lines_from (whole ++ (b ∷ [])) s))

  line_ends : 1 ≤ number → number < 18446744073709551615 → total (progress [] (number + 1) next next_table) s ≡ behind (number + 1) next (lines_from [] s)
      → by_byte true ≡ lines_by true
  line_ends h k e =
      let up : raised number ≡ number + 1 = omega arith in
      let later : leb (number + 1) 1 ≡ false = lt-leb (number + 1) 1 (omega arith) in
      append_assoc here (writes (ended now) s) (last_answer (after (ended now) s))
      ∙ ap (λ (n : ℕ). here ++ total (progress [] n next next_table) s) up
      ∙ ap (λ (l : List ℕ). here ++ l) e
      ∙ ap (λ (x : Bool). here ++ cond x (answers 2 next (drop 1 (lines_from [] s))) (answers (number + 1) next (lines_from [] s))) later
      ∙ one_line number (bare (take room whole)) (bare whole) register (lines_from [] s) h (kept_ended whole register).outcome_is

  line_goes_on : total (progress (take room (whole ++ (b ∷ []))) number register table) s ≡ behind number register (lines_from (whole ++ (b ∷ [])) s)
      → by_byte false ≡ lines_by false
  line_goes_on e = ap (λ (l : List ℕ). total (progress l number register table) s) (take_again room whole (b ∷ [])) ∙ e

  by_cases : (t : Bool) → (t ≡ true → by_byte true ≡ lines_by true) → (t ≡ false → by_byte false ≡ lines_by false) → by_byte t ≡ lines_by t
  by_cases true f g = f refl
  by_cases false f g = g refl

-- the bytes of a line have begun, and others follow
all_written : (s whole : List ℕ) (number : ℕ) (register : List ℕ) (table : Table) → 1 ≤ number → number + length s ≤ 18446744073709551615
    → total (progress (take room whole) number register table) s ≡ behind number register (lines_from whole s)
unfolding after writes lines_from
all_written [] whole number register table h k = at_end whole number register table h
all_written (b ∷ s) whole number register table h k =
    by_cases b s whole number register table (eqb b 10)
    (λ t.
    line_ends b s whole number register table h (omega arith)
    (all_written s [] (number + 1) (next b s whole number register table) (next_table b s whole number register table) (omega arith) (omega arith)))
    (λ t. line_goes_on b s whole number register table (all_written s (whole ++ (b ∷ [])) number register table h (omega arith)))

-- the whole input, from the start: lines are counted in 64 bits, so it is shorter than that
pub input_written : (input : List ℕ) → length input < 18446744073709551615 → writes start input ++ last_answer (after start input) ≡ program_writes input
unfolding program_writes
input_written input h = all_written input [] 1 empty_register empty_table (omega arith) (omega arith)

by_chunks : (p : Progress) (chunks : List (List ℕ)) → writes_all p chunks ≡ total p (flatten chunks)
unfolding after writes flatten writes_all
by_chunks p [] = refl
by_chunks p (chunk ∷ chunks) =
    ap (λ (l : List ℕ). writes p chunk ++ l) (by_chunks (after p chunk) chunks)
    ∙ sym (append_assoc (writes p chunk) (writes (after p chunk) (flatten chunks)) (last_answer (after (after p chunk) (flatten chunks))))
    ∙ (λ i. sym (writes_append p chunk (flatten chunks)) i ++ last_answer (sym (after_append p chunk (flatten chunks)) i))

-- Every way to cut an input into chunks: all that is written is what the program writes for the whole.
pub any_cut : (chunks : List (List ℕ)) → length (flatten chunks) < 18446744073709551615 → writes_all start chunks ≡ program_writes (flatten chunks)
any_cut chunks h = by_chunks start chunks ∙ input_written (flatten chunks) h

-- what turns leave does not depend on how the bytes were cut
pub record Followed (taken : List ℕ) (p : Progress) (output : List ℕ) : Type 0 where
  pub stands : p ≡ after start taken
  pub written : output ≡ writes start taken

followed : {taken output : List ℕ} {p : Progress} → Run taken p output → Followed taken p output
unfolding after writes
followed begins = record { stands = refl; written = refl }
followed (turn {taken} {output} {chunk} {put} {p} {q} {used} run a) =
    let f : Followed taken p output = followed run in
    record {
      stands =
          a.stands
          ∙ ap (λ (x : Progress). after x (take used chunk)) f.stands
          ∙ sym (after_append start taken (take used chunk));
      written =
          (λ i. f.written i ++ (a.puts ∙ ap (λ (x : Progress). writes x (take used chunk)) f.stands) i)
          ∙ sym (writes_append start taken (take used chunk));
    }

-- Every run: what its turns put and what is put at the end of the input, joined, is what the program writes for the input.
pub program_writes_lem : {input output put : List ℕ} {p : Progress} → Run input p output → length input < 18446744073709551615 → put ≡ last_answer p
    → output ++ put ≡ program_writes input
program_writes_lem {input} run h e =
    (λ i. (followed run).written i ++ (e ∙ ap last_answer (followed run).stands) i) ∙ input_written input h

-- Every run, however long: the table that is left at the end of the input is that of its lines.
pub program_notes : {input output : List ℕ} {p : Progress} {table : Table} → Run input p output → table ≡ last_table p → table ≡ table_after input
program_notes {input} run e = e ∙ ap last_table (followed run).stands ∙ input_noted input

-- Every run, with the summary behind it: the rows of the table that is left, put one after another.
pub program_reports_lem : {input output put report : List ℕ} {p : Progress} {table : Table} → Run input p output
    → length input < 18446744073709551615 → Finished p put table → length table.records ≡ record_count
    → Reporting table (record_count + 1) report → (output ++ put) ++ report ≡ program_reports input
program_reports_lem {table = table} run h f whole r =
    λ i. program_writes_lem run h f.puts i ++ (reported table whole r ∙ ap summary_text (program_notes run f.notes)) i

-- A call of `advance` is a turn: its contract, as it stands over the code, is what `turn` asks for.
pub turns :
    {taken output : List ℕ} (κs : Lfts 3) (a : Dens κs advance_kinds.ps) (x : (res_t advance_kinds.r κs).Denot)
    (s : AtExit (ended_of 3 advance_kinds.ps advance_kinds.r) κs)
    → advance_reads.Post κs a x s
    → Run taken a.0.now output
    → Run (taken ++ take x a.1.0.now) s.0.now (output ++ s.1.1.0.now)
turns κs a x s post run = turn run post

-- It takes some of the bytes that there are, and no more, so that turns come to the end of a chunk.
pub turn_takes :
    (κs : Lfts 3) (a : Dens κs advance_kinds.ps) (x : (res_t advance_kinds.r κs).Denot) (s : AtExit (ended_of 3 advance_kinds.ps advance_kinds.r) κs)
    → advance_reads.Post κs a x s → 0 < length a.1.0.now
    → (0 < x) × (x ≤ length a.1.0.now)
turn_takes κs a x s post h = (omega (arith, post.takes), omega (arith, post.takes))

-- A call of `finish` ends the run: by its contract, all that was put is what the program writes for the input.
pub ends :
    {input output : List ℕ} (κs : Lfts 2) (a : Dens κs finish_kinds.ps) (x : (res_t finish_kinds.r κs).Denot)
    (s : AtExit (ended_of 2 finish_kinds.ps finish_kinds.r) κs)
    → finish_reads.Post κs a x s
    → Run input a.0.now output
    → length input < 18446744073709551615
    → output ++ s.1.0.now ≡ program_writes input
ends κs a x s post run h = program_writes_lem run h post.puts

-- What is put in place of all that a text kept, where it has room for the longest line, is a row.
row_put :
    {t : Table} {i : ℕ} {output after : List ℕ} (N : ℕ)
    → Put N [] (part_of t i) after → longest ≤ N
    → Reporting t i output
    → Reporting t (i + 1) (output ++ after)
row_put {t} {i} N put wide r = row r (put.keeps ∙ added_all N [] (part_of t i) (omega (arith, put.few)))

-- A call of `put_row` is a row: by its contract, over a text with room for the longest line, whatever that kept before.
pub rows :
    {output : List ℕ} (N : ℕ) (fits : Fits w64 N) (κs : Lfts 3) (a : Dens κs (put_row_kinds.ps N fits)) (x : (res_t (put_row_kinds.r N fits) κs).Denot)
    (s : AtExit (ended_of 3 (put_row_kinds.ps N fits) (put_row_kinds.r N fits)) κs)
    → put_row_reads.Post N fits κs a x s → longest ≤ N
    → Reporting a.1.0.now a.1.1.0 output
    → Reporting a.1.0.now (a.1.1.0 + 1) (output ++ s.0.now)
rows N fits κs a x s post wide r = row_put N post wide r

-- So is one of `push_row`, where the text keeps nothing yet.
pub rows_pushed :
    {output : List ℕ} (N : ℕ) (fits : Fits w64 N) (κs : Lfts 3) (a : Dens κs (push_row_kinds.ps N fits)) (x : (res_t (push_row_kinds.r N fits) κs).Denot)
    (s : AtExit (ended_of 3 (push_row_kinds.ps N fits) (push_row_kinds.r N fits)) κs)
    → push_row_reads.Post N fits κs a x s → longest ≤ N → a.0.now ≡ []
    → Reporting a.1.0.now a.1.1.0 output
    → Reporting a.1.0.now (a.1.1.0 + 1) (output ++ s.0.now)
rows_pushed N fits κs a x s post wide none r = row_put N (rw none at post) wide r

-- And so is one of `keep_row`: what it tells to have put at the start of a slice with room for the longest line.
pub rows_kept :
    {output : List ℕ} (κs : Lfts 2) (a : Dens κs keep_row_kinds.ps) (x : (res_t keep_row_kinds.r κs).Denot)
    (s : AtExit (ended_of 2 keep_row_kinds.ps keep_row_kinds.r) κs)
    → keep_row_reads.Post κs a x s → longest ≤ length a.0.now
    → Reporting a.1.0.now a.1.1.0 output
    → Reporting a.1.0.now (a.1.1.0 + 1) (output ++ take x s.0.now)
rows_kept κs a x s post room r = row r (post.prints room)

-- So a run that `finish` ends, and the rows that it leaves, all of them put: joined, what the program writes with the summary.
pub ends_reported :
    {input output report : List ℕ} (κs : Lfts 2) (a : Dens κs finish_kinds.ps) (x : (res_t finish_kinds.r κs).Denot)
    (s : AtExit (ended_of 2 finish_kinds.ps finish_kinds.r) κs)
    → finish_reads.Post κs a x s
    → Run input a.0.now output
    → length input < 18446744073709551615
    → length s.0.now.carried.table.records ≡ record_count
    → Reporting s.0.now.carried.table (record_count + 1) report
    → (output ++ s.1.0.now) ++ report ≡ program_reports input
ends_reported κs a x s post run h sized r = program_reports_lem run h post sized r
