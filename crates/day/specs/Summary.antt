-- The day's summary: from an empty table, over any sequence of lines, each judged and then noted, each number equals the count of such
-- lines in the history, the line counts of all records add up to the lines handed in, and entities stand by first appearance. It holds for
-- fewer than 4,294,967,295 lines: then no counter is at its top.
use Rattle.std.specs.Prelude.{ℕ, ◌+◌, ◌≡◌, Bool, true, false, cond, not, ◌&&◌, ◌||◌, List, [], ◌∷◌, map, eqb, ltb, length, get_or, take, drop}
use Rattle.cells.specs.Cells.{cell}
use Rattle.facts.specs.Call.{Call}
use Rattle.facts.specs.Rules.{is_new, is_cxl}
use Rattle.verdict.specs.declared.Verdict.{Verdict}
use Rattle.verdict.specs.Codes.{codes}
use Rattle.verdict.specs.Counted.{times}
use Rattle.judge.specs.Outcome.{outcome, Judged}
use Rattle.conditions.specs.Condition2.{accepted, listed}
use Rattle.summary.specs.declared.Record.{Record}
use Rattle.summary.specs.declared.Noted.{Noted}
use Rattle.summary.specs.Counting.{blank}
use Rattle.summary.specs.Judged.{no_entity, line_of}
use Rattle.summary.specs.Noting.{free, note_of, Noting}
use Rattle.day.specs.Counts.{Asked, seated, of_firm, of_none, record_of, lines_in, lines_in_all}

-- A line that was handed in, with its verdict and the codes in its findings. Nothing of it knows of a table.
pub record Handed : Type 0 where
  pub line : List ℕ
  pub verdict : Verdict
  pub findings : List ℕ

-- a code stands in the findings
abbrev pub found : Handed → ℕ → Bool
found h code = eqb (times code h.findings) 1

-- by 1 to 10
abbrev pub refused_before11 : Handed → Bool
refused_before11 h = not (eqb h.verdict.answer 0) && not (eqb h.verdict.answer 11)

-- the five headings, in the order of a record's counters
abbrev pub headings : Handed → List Bool
headings h =
    -- accepted as NEW, accepted as CXL
    (accepted h.verdict && is_new h.line)
    ∷ (accepted h.verdict && is_cxl h.line)
    -- judged with findings
    ∷ (eqb h.verdict.answer 0 && not (eqb h.verdict.count 0))
    -- refused by 11, refused by 1 to 10
    ∷ eqb h.verdict.answer 11
    ∷ refused_before11 h
    ∷ []

-- refused by 1 to 10, or with 1001 or 1004 found, a line is no entity's; else its entity is cell 4
abbrev pub handed : Asked Handed
handed =
    record {
      nobody = λ h. refused_before11 h || found h 1001 || found h 1004;
      entity = λ h. cell h.line 4;
      under = λ k h. get_or (headings h) k false;
      has = λ j h. found h (get_or codes j 0);
    }

-- records past 256 stay unused
abbrev pub used : List Record → ℕ
used records = cond (ltb (length records) 256) (length records) 256

abbrev pub all_free : List Record → Bool
all_free [] = true
all_free (r ∷ rs) = blank r.entity && all_free rs

-- A run over a table: line after line, each with lists, register, moment and findings buffer of its own. `judge` leaves what its contract
-- says, and then noting leaves what its contract says of the line and the verdict. It begins with a table whose used records are free, and
-- a common record of zeros
pub data Run (start : List Record) : List Handed → List Record → Record → Type 0 where
  begin : all_free (take (used start) start) ≡ true → Run start [] start free
  next :
      {history : List Handed} {records after : List Record} {common then : Record} {noted : Noted} (call : Call) {before findings left : List ℕ} {verdict : Verdict}
      → Run start history records common → Judged (outcome call (length before)) before verdict findings left
      → Noting (note_of records common (line_of call.line verdict)) noted after then
      → Run start (record { line = call.line; verdict = verdict; findings = listed verdict findings } ∷ history) after then

-- m records are used
pub record Summary (m : ℕ) (start : List Record) (history : List Handed) (records : List Record) (common : Record) : Type 0 where
  -- the first records are those of the entities, by first appearance, and each number in them is the count of such lines
  pub firsts : take (length (seated handed m history)) records ≡ map (λ e. record_of handed e (of_firm handed e) history) (seated handed m history)
  -- the others that are used are free, and later ones are as they were
  pub others : all_free (drop (length (seated handed m history)) (take m records)) ≡ true
  pub later : drop m records ≡ drop m start
  pub common_is : common ≡ record_of handed no_entity (of_none handed m) history
  -- the lines of all records add up to those handed in
  pub add_up : lines_in_all (take (length (seated handed m history)) records) + lines_in common ≡ length history

-- What is said of a line when it is noted: whether the common record took it, and that no counter was at its top
pub record Says (m : ℕ) (earlier : List Handed) (h : Handed) (noted : Noted) : Type 0 where
  pub went : noted.common ≡ of_none handed m h earlier
  pub none_stuck : noted.stuck ≡ false
