-- Condition 3: from an empty register that only the checker writes, over any sequence of lines, each pair of executing entity
-- and reference ever accepted stands in exactly one row, no other pair does, and the row is live exactly if the pair's last
-- accepted line was NEW. CON-023, 024, 025 and refusal 11 follow that history. In version 2 the day in the row is that of the
-- pair's last accepted line, or 0 where none came since the register was converted from version 1.
use Rattle.std.specs.Prelude.{ℕ, ◌+◌, ◌≡◌, Bool, true, false, cond, not, ◌&&◌, ◌||◌, List, [], ◌∷◌, eqb, leb, length}
use Rattle.text.specs.Word.{same}
use Rattle.cells.specs.Cells.{cell}
use Rattle.register.specs.Frame.{version, used, capacity, framed}
use Rattle.register.specs.Pair.{pair_bytes}
use Rattle.register.specs.Rows.{rows_of, standing, day_of}
use Rattle.register.specs.Table.{rows_with}
use Rattle.register.specs.Conversion.{Converted}
use Rattle.facts.specs.Call.{Call}
use Rattle.facts.specs.Words.{is_live}
use Rattle.facts.specs.Rules.{is_new, is_cxl, good}
use Rattle.verdict.specs.declared.Verdict.{Verdict}
use Rattle.verdict.specs.Verdict.{bit}
use Rattle.verdict.specs.Counted.{times}
use Rattle.judge.specs.Refusal.{clean}
use Rattle.judge.specs.Outcome.{outcome, Judged}
use Rattle.conditions.specs.Condition1.{reached}
use Rattle.conditions.specs.Condition2.{accepted, listed}

-- The history: lines with their submission days and the verdicts that they got, and conversions of the register from version 1
-- to 2; the latest first. Nothing here knows of a register.
pub record Answered : Type 0 where
  pub line : List ℕ
  pub day : ℕ
  pub verdict : Verdict

pub data Event : Type 0 where
  Line : Answered → Event
  Conversion : Event

-- a pair: executing entity and reference, cells 4 and 2
pub record Pair : Type 0 where
  pub entity : List ℕ
  pub reference : List ℕ

abbrev pub pair_in : List ℕ → Pair
pair_in line = record { entity = cell line 4; reference = cell line 2 }

abbrev pub same_pair : Pair → Pair → Bool
same_pair p q = same p.entity q.entity && same p.reference q.reference

-- what a pair's last accepted line was
pub data Last : Type 0 where
  Never : Last
  New : Last
  Cancelling : Last

abbrev pub ever : Last → Bool
ever Never = false
ever New = true
ever Cancelling = true

abbrev pub was_new : Last → Bool
was_new Never = false
was_new New = true
was_new Cancelling = false

abbrev pub was_cxl : Last → Bool
was_cxl Never = false
was_cxl New = false
was_cxl Cancelling = true

-- an accepted line is NEW or CXL (`kind` below)
abbrev pub kind_of : List ℕ → Last
kind_of line = cond (is_new line) New Cancelling

-- the line was accepted, and is the pair's
abbrev pub takes : Answered → Pair → Bool
takes a p = accepted a.verdict && same_pair p (pair_in a.line)

unfoldable pub last_accepted : List Event → Pair → Last
last_accepted [] p = Never
last_accepted (Line a ∷ earlier) p = cond (takes a p) (kind_of a.line) (last_accepted earlier p)
last_accepted (Conversion ∷ earlier) p = last_accepted earlier p

-- the submission day of a pair's last accepted line; 0 where none came since the register was converted
unfoldable pub last_day : List Event → Pair → ℕ
last_day [] p = 0
last_day (Line a ∷ earlier) p = cond (takes a p) a.day (last_day earlier p)
last_day (Conversion ∷ earlier) p = 0

-- how many pairs were ever accepted
unfoldable pub pairs_accepted : List Event → ℕ
pairs_accepted [] = 0
pairs_accepted (Line a ∷ earlier) = bit (accepted a.verdict && not (ever (last_accepted earlier (pair_in a.line)))) + pairs_accepted earlier
pairs_accepted (Conversion ∷ earlier) = pairs_accepted earlier

-- The register: well framed, of version 1 or 2, with room for c rows, none used
pub record Empty (c : ℕ) (register : List ℕ) : Type 0 where
  pub framed_one : framed register ≡ true
  pub none_used : used register ≡ 0
  pub room : capacity register ≡ c

-- A run over a register with room for c rows: call after call, each with a line, lists, a moment and a findings buffer of its own, and
-- the register that the call before it left; each leaves what the contract of `judge` says. On the way the register may be converted, by
-- the contract of `convert`: the run goes on over the target, which has room of its own, and its history so far is the source's
pub data Run : ℕ → List Event → List ℕ → Type 0 where
  start : {c : ℕ} {register : List ℕ} → Empty c register → Run c [] register
  next :
      {c : ℕ} {history : List Event} (call : Call) {before findings left : List ℕ} {verdict : Verdict} → Run c history call.register
      → Judged (outcome call (length before)) before verdict findings left
      → Run c (Line (record { line = call.line; day = call.day; verdict = verdict }) ∷ history) left
  convert :
      {c : ℕ} {history : List Event} {source target left : List ℕ} → Run c history source → Converted source target 0 left
      → Run (capacity left) (Conversion ∷ history) left

-- entity of 20 bytes, reference of 1 to 52: the pairs that a register can hold
abbrev pub shaped : Pair → Bool
shaped p = eqb (length p.entity) 20 && leb 1 (length p.reference) && leb (length p.reference) 52

abbrev pub bytes_of : Pair → List ℕ
bytes_of p = pair_bytes p.entity p.reference

pub record Stands (history : List Event) (register : List ℕ) : Type 0 where
  -- each pair ever accepted stands in one used row, and no other pair does
  pub one_row : (p : Pair) → shaped p ≡ true → rows_with (rows_of register) (bytes_of p) ≡ bit (ever (last_accepted history p))
  pub of_shape : (p : Pair) → ever (last_accepted history p) ≡ true → shaped p ≡ true
  -- there are no other used rows
  pub no_more : used register ≡ pairs_accepted history
  -- the row is live exactly if the last accepted line of the pair was NEW
  pub live : (p : Pair) → shaped p ≡ true → is_live (standing register (bytes_of p)) ≡ was_new (last_accepted history p)
  -- in version 2, the day in the row is that of the line
  pub day : (p : Pair) → shaped p ≡ true → version register ≡ 2 → day_of register (bytes_of p) ≡ last_day history p

-- NEW, or CXL, and cells 4 and 2 are well formed
abbrev pub new_pair : List ℕ → Bool
new_pair line = is_new line && good line 4 && good line 2

abbrev pub cxl_pair : List ℕ → Bool
cxl_pair line = is_cxl line && good line 4 && good line 2

-- what the last accepted line of the call's own pair was
abbrev pub last_of : List Event → Call → Last
last_of history call = last_accepted history (pair_in call.line)

pub record Follows (c : ℕ) (history : List Event) (call : Call) (room : ℕ) (verdict : Verdict) (findings : List ℕ) : Type 0 where
  -- CON-023: NEW, and the pair's last accepted line was NEW
  pub con023 : times 23 (listed verdict findings) ≡ bit (reached call room && (new_pair call.line && was_new (last_of history call)))
  -- CON-024: CXL, and the pair was never accepted
  pub con024 : times 24 (listed verdict findings) ≡ bit (reached call room && (cxl_pair call.line && not (ever (last_of history call))))
  -- CON-025: CXL, and the pair's last accepted line was CXL
  pub con025 : times 25 (listed verdict findings) ≡ bit (reached call room && (cxl_pair call.line && was_cxl (last_of history call)))
  -- refusal 11: no rule or form objects, NEW, the pair was never accepted, and c pairs were
  pub refusal11 :
      eqb verdict.answer 11
      ≡ (reached call room && (clean call && (is_new call.line && (not (ever (last_of history call)) && eqb (pairs_accepted history) c))))
  -- no line is accepted that is neither NEW nor CXL
  pub kind : accepted verdict ≡ true → (is_new call.line || is_cxl call.line) ≡ true

-- The condition, of any run so far: what the register shows, and what the next call answers, whatever else it gets. So a cancellation
-- takes effect at the line that carries it, for each line judged after it
pub record Condition3 (c : ℕ) (history : List Event) (register : List ℕ) : Type 0 where
  pub stands : Stands history register
  pub follows :
      (call : Call) → call.register ≡ register → {before findings left : List ℕ} {verdict : Verdict}
      → Judged (outcome call (length before)) before verdict findings left
      → Follows c history call (length before) verdict findings
