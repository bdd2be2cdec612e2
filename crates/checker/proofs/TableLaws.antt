-- Whatever pieces the input comes in, the table behind it is that of its lines.
use mathlib.Core.Path.{◌≡◌, ◌∙◌, refl, ap}
use mathlib.Core.Bool.{Bool, true, false, cond}
use mathlib.Core.List.{List, [], ◌∷◌, ◌++◌}
use Prim.Native.Nat.{ℕ, ◌≤◌}
use native.Mathlib.Omega.{arith}
use lib.Dec.{eqb, leb}
use lib.ListN.{length, take, drop}
use borrow.Author.Tests.{lt-leb, lt-ltb}
use Rattle.text.proofs.Bools.{by_test}
use Rattle.buffer.proofs.KeptLaws.{take_again}
use Rattle.table.specs.declared.Table.{Table}
use Rattle.table.specs.Noted.{noted, empty_table}
use Rattle.checker.specs.Setting.{empty_register}
use Rattle.checker.specs.Bare.{bare}
use Rattle.checker.specs.Lines.{unended, lines_from}
use Rattle.checker.specs.Program.{judged, notes, table_after}
use Rattle.checker.specs.declared.progress.Progress.{Progress}
use Rattle.checker.specs.Progress.{progress, start, left, entered, room, raised, ended, more, after, last_table}
use Rattle.checker.proofs.Enough.{Alike, noted_alike, kept_ended, kept_last}

-- the table behind the lines from a number on, of which line one is not noted
abbrev behind : ℕ → List ℕ → Table → List (List ℕ) → Table
behind number register table lines = cond (leb number 1) (notes register table (drop 1 lines)) (notes register table lines)

-- one line and those behind it: what is kept of it is noted as the line is
one_line : (number : ℕ) (kept line register : List ℕ) (table : Table) (lines : List (List ℕ)) → Alike kept line register
    → notes (left number kept register) (entered number kept register table) lines ≡ behind number register table (line ∷ lines)
unfolding left entered notes
one_line number kept line register table lines a = go (leb number 1)
  where
    go : (t : Bool)
        → notes (cond t register (judged kept register).register) (cond t table (noted table kept (judged kept register).verdict)) lines
        ≡ cond t (notes register table lines) (notes (judged line register).register (noted table line (judged line register).verdict) lines)
    go true = refl
    go false = λ i. notes (a.outcome_is i).register (noted_alike a table i) lines

at_end : (whole : List ℕ) (number : ℕ) (register : List ℕ) (table : Table)
    → last_table (progress (take room whole) number register table) ≡ behind number register table (unended whole)
unfolding unended notes
at_end [] number register table = by_test (leb number 1) (λ t. rw t) (λ t. rw t)
at_end (b ∷ s) number register table =
    ap (λ (t : Bool). cond t (entered number (take room (b ∷ s)) register table) table) (lt-ltb 0 (length (take room (b ∷ s))) (omega arith))
    ∙ one_line number (take room (b ∷ s)) (b ∷ s) register table [] (kept_last (b ∷ s) register)

-- one byte, which is LF or is not
module _ (b : ℕ) (s whole : List ℕ) (number : ℕ) (register : List ℕ) (table : Table) where
  abbrev now : Progress
  now = progress (take room whole) number register table

  abbrev line : List ℕ
  line = bare (take room whole)

  abbrev next : Progress
  next = ended now

  abbrev table_by : Bool → Table
  table_by t = last_table (after (cond t (ended now) (more now b)) s)

  abbrev lines_by : Bool → Table
  lines_by t = behind number register table (cond t (bare whole ∷ lines_from [] s) (lines_from (whole ++ (b ∷ [])) s))

  line_ends : 1 ≤ number → last_table (after next s) ≡ behind (raised number) next.carried.register next.carried.table (lines_from [] s)
      → table_by true ≡ lines_by true
  line_ends h e =
      let later : leb (raised number) 1 ≡ false = lt-leb (raised number) 1 (omega arith) in
      e
      ∙ ap
      (λ (x : Bool). cond x (notes next.carried.register next.carried.table (drop 1 (lines_from [] s))) (notes next.carried.register next.carried.table (lines_from [] s)))
      later
      ∙ one_line number line (bare whole) register table (lines_from [] s) (kept_ended whole register)

  line_goes_on : last_table (after (progress (take room (whole ++ (b ∷ []))) number register table) s)
      ≡ behind number register table (lines_from (whole ++ (b ∷ [])) s)
      → table_by false ≡ lines_by false
  line_goes_on e = ap (λ (l : List ℕ). last_table (after (progress l number register table) s)) (take_again room whole (b ∷ [])) ∙ e

  by_cases : (t : Bool) → (t ≡ true → table_by true ≡ lines_by true) → (t ≡ false → table_by false ≡ lines_by false) → table_by t ≡ lines_by t
  by_cases true f g = f refl
  by_cases false f g = g refl

-- the bytes of a line have begun, and others follow
all_noted : (s whole : List ℕ) (number : ℕ) (register : List ℕ) (table : Table) → 1 ≤ number
    → last_table (after (progress (take room whole) number register table) s) ≡ behind number register table (lines_from whole s)
unfolding after lines_from
all_noted [] whole number register table h = at_end whole number register table
all_noted (b ∷ s) whole number register table h =
    by_cases b s whole number register table (eqb b 10)
    (λ t.
    let p : Progress = next b s whole number register table in
    line_ends b s whole number register table h (all_noted s [] (raised number) p.carried.register p.carried.table (omega arith)))
    (λ t. line_goes_on b s whole number register table (all_noted s (whole ++ (b ∷ [])) number register table h))

-- the whole input, from the start
pub input_noted : (input : List ℕ) → last_table (after start input) ≡ table_after input
unfolding table_after
input_noted input = all_noted input [] 1 empty_register empty_table (omega arith)
