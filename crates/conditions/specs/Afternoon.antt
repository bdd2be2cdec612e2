-- One afternoon of a firm, with a register that has room for one pair, and the day after, over the register in version 2.
use Rattle.std.specs.Prelude.{ℕ, ◌≡◌, false, List, [], ◌∷◌, ◌++◌, replicate}
use Rattle.text.specs.Ascii.{ascii}
use Rattle.register.specs.Pair.{pair_bytes}
use Rattle.register.specs.Written.{little_bytes}
use Rattle.register.specs.Conversion.{Converted}
use Rattle.facts.specs.Call.{Call, call}
use Rattle.verdict.specs.declared.Verdict.{Verdict}
use Rattle.verdict.specs.Codes.{code_count}
use Rattle.judge.specs.Outcome.{Outcome, outcome}
use Rattle.conditions.specs.Condition3.{Event, Line, Conversion}

abbrev pub lei : List ℕ
lei = ascii "LEI" ++ (1 ∷ 0 ∷ 1 ∷ 0 ∷ 0 ∷ 0 ∷ (ascii "00000000000000000098" ++ (1 ∷ 1 ∷ 135 ∷ 236 ∷ 51 ∷ 1 ∷ 135 ∷ 236 ∷ 51 ∷ 1 ∷ [])))

-- a list without rows
abbrev pub no_rows : List ℕ
no_rows = 1 ∷ 0 ∷ 0 ∷ 0 ∷ 0 ∷ 0 ∷ []

-- the lines, of one pair and of another
abbrev pub reports : List ℕ
reports = ascii "NEW|TRADE1||00000000000000000098|TRUE|00000000000000000098|LEI:00000000000000000098|||||||||INTC|||||||||FALSE|||2024-05-06T10:00:00Z|AOTC|UNT:5|||PNDG|||XOFF|||||||||||||||||||||||NORE||||||FALSE"

abbrev pub cancels : List ℕ
cancels = ascii "CXL|TRADE1||00000000000000000098||00000000000000000098|||||||||||||||||||||||||||||||||||||||||||||||||||||||||||"

abbrev pub other : List ℕ
other = ascii "NEW|TRADE2||00000000000000000098|TRUE|00000000000000000098|LEI:00000000000000000098|||||||||INTC|||||||||FALSE|||2024-05-06T10:00:00Z|AOTC|UNT:5|||PNDG|||XOFF|||||||||||||||||||||||NORE||||||FALSE"

-- a call at noon of a day, Polish identifiers not asked for
abbrev pub on : ℕ → List ℕ → List ℕ → Call
on day line register =
    call line lei (ascii "CTY" ++ no_rows) (ascii "CCY" ++ no_rows) (ascii "VEN" ++ no_rows) (ascii "INS" ++ no_rows) register day 43200000000 false

-- on 6 May 2024
abbrev pub at : List ℕ → List ℕ → Call
at line register = on 20240506 line register

-- a register with room for one row: not used, the pair live, the pair cancelled
abbrev pub none : List ℕ
none = ascii "TRN" ++ (1 ∷ 0 ∷ 0 ∷ 0 ∷ 0 ∷ 0 ∷ replicate 74 0)

abbrev pub holding : ℕ → List ℕ
holding state = ascii "TRN" ++ (1 ∷ 0 ∷ 1 ∷ 0 ∷ 0 ∷ 0 ∷ (pair_bytes (ascii "00000000000000000098") (ascii "TRADE1") ++ (state ∷ [])))

-- in version 2: the pair in that state, set on that day
abbrev pub dated : ℕ → ℕ → List ℕ
dated state day =
    ascii "TRN" ++ (2 ∷ 0 ∷ 1 ∷ 0 ∷ 0 ∷ 0 ∷ (pair_bytes (ascii "00000000000000000098") (ascii "TRADE1") ++ (state ∷ little_bytes 4 day)))

-- what a call answers: no finding; one finding, by the word that its bit makes; a refusal
abbrev pub accepting : Verdict
accepting = record { answer = 0; count = 0; words = 0 ∷ 0 ∷ 0 ∷ [] }

abbrev pub finding : ℕ → Verdict
finding word = record { answer = 0; count = 1; words = word ∷ 0 ∷ 0 ∷ [] }

abbrev pub refusing : ℕ → Verdict
refusing number = record { answer = number; count = 0; words = 0 ∷ 0 ∷ 0 ∷ [] }

abbrev pub leaves : Verdict → List ℕ → List ℕ → Outcome
leaves verdict listed register = record { verdict = verdict; listed = listed; register = register }

-- the lines with their days and verdicts, and the conversion, the latest first
abbrev pub answered : ℕ → List ℕ → Verdict → Event
answered day line verdict = Line (record { line = line; day = day; verdict = verdict })

abbrev pub history : List Event
history =
    answered 20240507 cancels accepting
    ∷ Conversion
    ∷ answered 20240506 other (refusing 11)
    ∷ answered 20240506 reports accepting
    ∷ answered 20240506 cancels (finding 4)
    ∷ answered 20240506 cancels accepting
    ∷ answered 20240506 reports (finding 1)
    ∷ answered 20240506 reports accepting
    ∷ answered 20240506 cancels (finding 2)
    ∷ []

pub record Afternoon : Type 0 where
  -- cancelled before it was reported: 024
  pub too_early : outcome (at cancels none) code_count ≡ leaves (finding 2) (24 ∷ []) none
  pub reported : outcome (at reports none) code_count ≡ leaves accepting [] (holding 1)
  -- reported twice: 023
  pub twice : outcome (at reports (holding 1)) code_count ≡ leaves (finding 1) (23 ∷ []) (holding 1)
  pub cancelled : outcome (at cancels (holding 1)) code_count ≡ leaves accepting [] (holding 2)
  -- cancelled twice: 025
  pub twice_cancelled : outcome (at cancels (holding 2)) code_count ≡ leaves (finding 4) (25 ∷ []) (holding 2)
  -- reported again, the same day
  pub again : outcome (at reports (holding 2)) code_count ≡ leaves accepting [] (holding 1)
  -- another pair: no room
  pub no_room_left : outcome (at other (holding 1)) code_count ≡ leaves (refusing 11) [] (holding 1)
  -- the register is converted: the same pair in the same state, with day 0
  pub converted : Converted (holding 1) (replicate 87 0) 0 (dated 1 0)
  -- cancelled the next day
  pub next_day : outcome (on 20240507 cancels (dated 1 0)) code_count ≡ leaves accepting [] (dated 2 20240507)
