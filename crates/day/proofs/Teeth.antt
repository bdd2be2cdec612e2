-- That the theorem of the day's summary is about something: tables to begin with, lines to go on with, and what `judge` does is such a step.
use mathlib.Core.Path.{◌≡◌, refl}
use mathlib.Core.Bool.{true}
use mathlib.Core.List.{List, [], ◌∷◌}
use Prim.Native.Nat.{ℕ, zero, suc}
use contract.Lifetimes.{Lfts}
use lib.ListN.{length, take, replicate}
use Rattle.facts.specs.Call.{Call}
use Rattle.verdict.specs.declared.Verdict.{Verdict}
use Rattle.verdict.specs.Findings.{over}
use Rattle.judge.specs.Outcome.{outcome}
use Rattle.judge.proofs.judge.Reads as reads
use Rattle.judge.proofs.Contract.{Arguments, Returned, call_of, findings_after}
use Rattle.conditions.specs.Condition2.{listed}
use Rattle.summary.specs.declared.Record.{Record}
use Rattle.summary.specs.declared.Noted.{Noted}
use Rattle.summary.specs.Counting.{fresh}
use Rattle.summary.specs.Judged.{line_of}
use Rattle.summary.specs.Noting.{free, note_of, Noting}
use Rattle.day.specs.Summary.{Handed, used, all_free, Run, begin, next}

-- a table of free records, of any size
frees : (m n : ℕ) → all_free (take m (replicate n free)) ≡ true
unfolding fresh
frees zero n = refl
frees (suc m) zero = refl
frees (suc m) (suc n) = frees m n

pub empty : (n : ℕ) → Run (replicate n free) [] (replicate n free) free
empty n = begin (frees (used (replicate n free)) n)

-- any call can come next, with any findings buffer
module _ {start : List Record} {history : List Handed} {records : List Record} {common : Record} (run : Run start history records common) where
  module _ (call : Call) (before : List ℕ) where
    abbrev verdict : Verdict
    verdict = (outcome call (length before)).verdict

    abbrev findings : List ℕ
    findings = over (outcome call (length before)).listed before

    pub go_on :
        Run start (record { line = call.line; verdict = verdict; findings = listed verdict findings } ∷ history)
        (note_of records common (line_of call.line verdict)).records (note_of records common (line_of call.line verdict)).common
    go_on =
        next {noted = (note_of records common (line_of call.line verdict)).noted} call {before = before} {left = (outcome call (length before)).register} run
        (record { says = refl; lists = refl; keeps = refl }) (record { says = refl; counts = refl; keeps = refl })

  -- what the contract of `judge` permits and then that of noting, with the line and the verdict that it left
  pub steps :
      (κs : Lfts 8) (a : Arguments κs) (x : Verdict) (s : Returned κs) {noted : Noted} {after : List Record} {then : Record} → reads.Post κs a x s
      → Noting (note_of records common (line_of (call_of κs a).line x)) noted after then
      → Run start (record { line = (call_of κs a).line; verdict = x; findings = listed x (findings_after κs s) } ∷ history) after then
  steps κs a x s post n = next (call_of κs a) run post n
