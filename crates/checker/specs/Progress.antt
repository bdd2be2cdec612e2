-- Where the program stands between two bytes of its input, and what it writes on the way. The input comes in chunks, cut anywhere.
use Rattle.std.specs.Prelude.{ℕ, suc, ◌+◌, ◌≤◌, min, ◌≡◌, Bool, false, cond, List, [], ◌∷◌, ◌++◌, eqb, leb, ltb, length, take}
use Rattle.table.specs.declared.Table.{Table}
use Rattle.table.specs.Noted.{noted, empty_table}
use Rattle.checker.specs.declared.progress.Carried.{Carried}
use Rattle.checker.specs.declared.progress.Progress.{Progress}
use Rattle.checker.specs.Setting.{empty_register}
use Rattle.checker.specs.Bare.{bare}
use Rattle.checker.specs.Program.{answer_to, judged}

abbrev pub carried : ℕ → List ℕ → Table → Carried
carried number register table = record { number = number; register = register; table = table }

-- the bytes kept of the line that has begun, its number, the register, and the table of the summary
abbrev pub progress : List ℕ → ℕ → List ℕ → Table → Progress
progress begun number register table = record { begun = begun; carried = carried number register table }

abbrev pub start : Progress
start = progress [] 1 empty_register empty_table

-- what is written for a line of some number, and the register and the table behind it: line one is skipped
unfoldable pub told : ℕ → List ℕ → List ℕ → List ℕ
told number line register = cond (leb number 1) [] (answer_to number (judged line register))

unfoldable pub left : ℕ → List ℕ → List ℕ → List ℕ
left number line register = cond (leb number 1) register (judged line register).register

unfoldable pub entered : ℕ → List ℕ → List ℕ → Table → Table
entered number line register table = cond (leb number 1) table (noted table line (judged line register).verdict)

-- of a line no more than 4,098 bytes are kept
abbrev pub room : ℕ
room = 4098

-- numbers have 64 bits
abbrev pub raised : ℕ → ℕ
raised number = min (number + 1) 18446744073709551615

abbrev pub ended : Progress → Progress
ended p =
    progress [] (raised p.carried.number) (left p.carried.number (bare p.begun) p.carried.register)
    (entered p.carried.number (bare p.begun) p.carried.register p.carried.table)

abbrev pub more : Progress → ℕ → Progress
more p b = progress (take room (p.begun ++ (b ∷ []))) p.carried.number p.carried.register p.carried.table

-- one byte: LF ends the line
abbrev pub step : Progress → ℕ → Progress
step p b = cond (eqb b 10) (ended p) (more p b)

abbrev pub said : Progress → ℕ → List ℕ
said p b = cond (eqb b 10) (told p.carried.number (bare p.begun) p.carried.register) []

-- where it stands behind some bytes, and what it has written for them
unfoldable pub after : Progress → List ℕ → Progress
after p [] = p
after p (b ∷ s) = after (step p b) s

unfoldable pub writes : Progress → List ℕ → List ℕ
writes p [] = []
writes p (b ∷ s) = said p b ++ writes (step p b) s

-- what it writes at the end of the input, where a line may have begun, and the table then
abbrev pub last_answer : Progress → List ℕ
last_answer p = cond (ltb 0 (length p.begun)) (told p.carried.number p.begun p.carried.register) []

abbrev pub last_table : Progress → Table
last_table p = cond (ltb 0 (length p.begun)) (entered p.carried.number p.begun p.carried.register p.carried.table) p.carried.table

-- all that is written for an input that comes in chunks, and at its end
unfoldable pub writes_all : Progress → List (List ℕ) → List ℕ
writes_all p [] = last_answer p
writes_all p (chunk ∷ chunks) = writes p chunk ++ writes_all (after p chunk) chunks

-- the place of the first LF, or the length
unfoldable pub line_end : List ℕ → ℕ
line_end [] = 0
line_end (b ∷ s) = cond (eqb b 10) 0 (suc (line_end s))

-- up to the first LF and with it, or all
abbrev pub up_to_end : List ℕ → ℕ
up_to_end chunk = min (length chunk) (line_end chunk + 1)

-- What is put for a line is its outcome, its register is kept, and the line is noted in the table.
pub record Answered (c : Carried) (line put : List ℕ) (c' : Carried) : Type 0 where
  pub prints : put ≡ answer_to c.number (judged line c.register)
  pub carries : c' ≡ carried c.number (judged line c.register).register (noted c.table line (judged line c.register).verdict)

-- What is put is what is written for a line; register and table are those behind it.
pub record Told (c : Carried) (line put : List ℕ) (c' : Carried) : Type 0 where
  pub prints : put ≡ told c.number line c.register
  pub carries : c' ≡ carried c.number (left c.number line c.register) (entered c.number line c.register c.table)

-- A turn takes the bytes of a chunk up to the first LF, stands behind them, and puts what is written for them.
pub record Advanced (p : Progress) (chunk : List ℕ) (used : ℕ) (q : Progress) (put : List ℕ) : Type 0 where
  pub takes : used ≡ up_to_end chunk
  pub stands : q ≡ after p (take used chunk)
  pub puts : put ≡ writes p (take used chunk)

-- At the end of the input: what is put, and the table that is left.
pub record Finished (p : Progress) (put : List ℕ) (table : Table) : Type 0 where
  pub puts : put ≡ last_answer p
  pub notes : table ≡ last_table p

-- Turns one after another, each on any chunk: the bytes taken, where the program stands behind them, and what was put, joined.
pub data Run : List ℕ → Progress → List ℕ → Type 0 where
  begins : Run [] start []
  turn :
      {taken output chunk put : List ℕ} {p q : Progress} {used : ℕ} → Run taken p output → Advanced p chunk used q put
      → Run (taken ++ take used chunk) q (output ++ put)

-- The bytes that a read gave are taken whole, and where there are none the input has ended.
pub record TookRead (given : List ℕ) (p q : Progress) (ended : Bool) : Type 0 where
  pub stands : q ≡ after p given
  pub at_end : ended ≡ eqb (length given) 0

-- where some bytes lead, whatever they are
pub record Reached (p q : Progress) : Type 0 where
  pub bytes : List ℕ
  pub there : q ≡ after p bytes

-- Reads go on until the input has ended. Each gives a byte at least, so where it has not, there were as many bytes as turns.
pub record ReadOn (p q : Progress) (ended : Bool) (turns : ℕ) : Type 0 where
  pub reached : Reached p q
  pub not_early : ended ≡ false → turns ≤ length reached.bytes
