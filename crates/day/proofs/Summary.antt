-- The theorem of the day's summary, of every run.
use mathlib.Core.Path.{◌≡◌, sym, ap, subst₂, ◌∙◌}
use mathlib.Core.List.{List, [], ◌∷◌, map}
use Prim.Native.Nat.{ℕ, ◌+◌, ◌<◌}
use native.Mathlib.Omega.{arith}
use lib.ListN.{length, take, drop, length-map}
use lib.Seq.{take-take, take-append_seam, drop-append_seam}
use Rattle.facts.specs.Call.{Call}
use Rattle.verdict.specs.declared.Verdict.{Verdict}
use Rattle.judge.specs.Outcome.{outcome, Judged}
use Rattle.conditions.specs.Condition2.{listed}
use Rattle.summary.specs.declared.Line.{Line}
use Rattle.summary.specs.declared.Record.{Record}
use Rattle.summary.specs.declared.Noted.{Noted}
use Rattle.summary.specs.Counting.{top}
use Rattle.summary.specs.Judged.{no_entity, line_of}
use Rattle.summary.specs.Noting.{note_of, Noting}
use Rattle.day.specs.Counts.{firms, seated, of_firm, of_none, record_of, lines_in, lines_in_all}
use Rattle.day.specs.Summary.{Handed, handed, used, all_free, Run, begin, next, Summary, Says}
use Rattle.day.proofs.Numbers.{noted}
use Rattle.day.proofs.Kept.{Kept, firm, take_most, kept_none, kept_on, total}
use Rattle.day.proofs.Same.{AllAgree, none, more, same_length, same_firms, firm_agrees, none_agrees, same_record}
use Rattle.day.proofs.Agreement.{agrees}

-- the lines as they were noted, and what the table keeps of them
record Told (start : List Record) (history : List Handed) (records : List Record) (common : Record) : Type 0 where
  lines : List Line
  all : AllAgree noted handed lines history
  keeps : Kept (used start) start lines records common

told : {start : List Record} {history : List Handed} {records : List Record} {common : Record} → Run start history records common → length history < top
    → Told start history records common
told {start} (begin f) fits = record { lines = []; all = none; keeps = kept_none start f }
told {start} (next {history} {records} {after} {common} {then} call {verdict = verdict} run judged n) fits =
    let before : Told start history records common = told run (omega arith) in
    let l : Line = line_of call.line verdict in
    record {
      lines = l ∷ before.lines;
      all = more (agrees call judged) before.all;
      keeps =
          subst₂ (λ (rs : List Record) (c : Record). Kept (used start) start (l ∷ before.lines) rs c) (sym n.counts) (sym n.keeps)
          (kept_on start before.lines records common l before.keeps (omega (arith, same_length noted handed before.all))).keeps;
    }

module _ (start : List Record) {history : List Handed} {records : List Record} {common : Record} (t : Told start history records common) where
  abbrev m : ℕ
  m = used start

  abbrev ls : List Line
  ls = t.lines

  abbrev k : Kept m start ls records common
  k = t.keeps

  seats_are : seated noted m ls ≡ seated handed m history
  seats_are = ap (take m) (same_firms noted handed t.all)

  -- the records that the entities have
  firms_are : map (firm ls) (seated noted m ls) ≡ map (λ e. record_of handed e (of_firm handed e) history) (seated handed m history)
  firms_are = λ i. map (λ e. same_record noted handed (of_firm noted e) (of_firm handed e) (firm_agrees noted handed e) e ls history t.all i) (seats_are i)

  none_is : record_of noted no_entity (of_none noted m) ls ≡ record_of handed no_entity (of_none handed m) history
  none_is = same_record noted handed (of_none noted m) (of_none handed m) (none_agrees noted handed m) no_entity ls history t.all

  size : length (map (firm ls) (seated noted m ls)) ≡ length (seated handed m history)
  size = length-map (seated noted m ls) (firm ls) ∙ ap length seats_are

  first_ones : take (length (seated handed m history)) records ≡ map (firm ls) (seated noted m ls)
  first_ones =
      sym (take-take (length (seated handed m history)) m records (take_most m (firms handed history)))
      ∙ (λ i. take (sym size i) (k.holds i))
      ∙ take-append_seam (map (firm ls) (seated noted m ls)) k.rest

  summed : Summary m start history records common
  summed =
      record {
        firsts = first_ones ∙ firms_are;
        others = ap all_free ((λ i. drop (sym size i) (k.holds i)) ∙ drop-append_seam (map (firm ls) (seated noted m ls)) k.rest) ∙ k.frees;
        later = k.later;
        common_is = k.common_is ∙ none_is;
        add_up = (λ i. lines_in_all (first_ones i) + lines_in (k.common_is i)) ∙ total m ls ∙ same_length noted handed t.all;
      }

pub day_summary : (start : List Record) {history : List Handed} {records : List Record} {common : Record} → Run start history records common
    → length history < top → Summary (used start) start history records common
day_summary start run fits = summed start (told run fits)

-- and of what the next call says
pub day_says :
    (start : List Record) {history : List Handed} {records : List Record} {common : Record} → Run start history records common → length history < top
    → (call : Call) {before findings left : List ℕ} {verdict : Verdict} → Judged (outcome call (length before)) before verdict findings left
    → {said : Noted} {after : List Record} {then : Record} → Noting (note_of records common (line_of call.line verdict)) said after then
    → Says (used start) history (record { line = call.line; verdict = verdict; findings = listed verdict findings }) said
day_says start {history} {records} {common} run fits call {before} {findings} {left} {verdict} judged {said} n =
    let t : Told start history records common = told run fits in
    let l : Line = line_of call.line verdict in
    let step = kept_on start t.lines records common l t.keeps (omega (arith, same_length noted handed t.all)) in
    record {
      went = ap (λ (x : Noted). x.common) n.says ∙ step.went ∙ none_agrees noted handed (used start) l _ t.lines history (agrees call judged) t.all;
      none_stuck = ap (λ (x : Noted). x.stuck) n.says ∙ step.none_stuck;
    }
