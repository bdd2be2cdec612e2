-- What is printed for the day's summary: a line of its own for the word, then one for each entity's record in the order of the table, then
-- one for the common record.
use Rattle.std.specs.Prelude.{ℕ, ◌+◌, ◌≤◌, ◌≡◌, cond, List, [], ◌∷◌, ◌++◌, eqb, ltb, length, take, get_or}
use Rattle.text.specs.Ascii.{ascii}
use Rattle.verdict.specs.Codes.{codes}
use Rattle.buffer.specs.Kept.{Kept}
use Rattle.buffer.specs.Text.{added}
use Rattle.summary.specs.declared.Record.{Record}
use Rattle.summary.specs.Counting.{blank}
use Rattle.summary.specs.Noting.{free}
use Rattle.table.specs.declared.Table.{Table}
use Rattle.table.specs.Rows.{record_count}
use Rattle.printing.specs.Printed.{decimal, spaced, longest}

-- a code, a colon and its count, behind a space; nothing for a code that no line has
unfoldable pub count_text : ℕ → ℕ → List ℕ
count_text code count = cond (eqb count 0) [] ((32 ∷ decimal code) ++ (58 ∷ decimal count))

unfoldable pub count_texts : List ℕ → List ℕ → List ℕ
count_texts [] counts = []
count_texts (code ∷ table) [] = []
count_texts (code ∷ table) (count ∷ counts) = count_text code count ++ count_texts table counts

-- the lines under each heading
abbrev pub headings_of : Record → List ℕ
headings_of r = r.accepted ∷ r.cancelled ∷ r.found ∷ r.full ∷ r.refused ∷ []

-- the name, the five counts, and the codes that lines have
unfoldable pub record_text : List ℕ → Record → List ℕ
record_text name r = name ++ (spaced (headings_of r) ++ (count_texts codes r.codes ++ (10 ∷ [])))

-- a free record has no line
unfoldable pub firm_text : Record → List ℕ
firm_text r = cond (blank r.entity) [] (record_text r.entity r)

unfoldable pub firm_texts : List Record → List ℕ
firm_texts [] = []
firm_texts (r ∷ records) = firm_text r ++ firm_texts records

-- the first line
abbrev pub opening : List ℕ
opening = ascii "summary\n"

abbrev pub common_text : Record → List ℕ
common_text r = record_text (ascii "common") r

unfoldable pub summary_text : Table → List ℕ
summary_text t = opening ++ (firm_texts t.records ++ common_text t.common)

-- row by row: those of the records, and the common one behind them
unfoldable pub part_of : Table → ℕ → List ℕ
part_of t i = cond (ltb i record_count) (firm_text (get_or t.records i free)) (common_text t.common)

-- Text is kept behind what was, as far as there is room, and is not longer than so many bytes.
pub record KeptWithin (most room : ℕ) (before more after : List ℕ) : Type 0 where
  pub keeps : after ≡ added room before more
  pub few : length more ≤ most

-- a code of up to 5 digits and a count of up to 10, with the space and the colon
abbrev pub longest_count : ℕ
longest_count = 17

-- A text is kept, and stands whole where there is room for the longest line behind what is kept already.
abbrev pub Put : ℕ → List ℕ → List ℕ → List ℕ → Type 0
Put room before text after = KeptWithin longest room before text after

-- A text is put at the start of a buffer, and stands there whole where the buffer has room for the longest line.
pub record PutFirst (text before after : List ℕ) (n : ℕ) : Type 0 where
  pub keeps : Kept before 0 text after n
  pub prints : longest ≤ length before → take n after ≡ text

-- The opening, and the rows one after another: how many there are, and what was put, joined.
pub data Reporting (t : Table) : ℕ → List ℕ → Type 0 where
  heads : Reporting t 0 opening
  row : {i : ℕ} {output put : List ℕ} → Reporting t i output → put ≡ part_of t i → Reporting t (i + 1) (output ++ put)
