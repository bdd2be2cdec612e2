-- What is printed and noted for a line is its outcome.
use mathlib.Core.Path.{◌≡◌, ◌∙◌, refl, ap}
use mathlib.Core.Bool.{Bool, true, false, cond}
use mathlib.Core.List.{List, []}
use Prim.Native.Nat.{ℕ, ◌≤◌}
use native.Mathlib.Omega.{arith}
use lib.ListN.{length, take}
use lib.Seq.{take-append_seam}
use lib.Dec.{eqb}
use Rattle.facts.specs.Call.{Call}
use Rattle.verdict.specs.declared.Verdict.{Verdict}
use Rattle.verdict.specs.Verdict.{verdict_of, refused_by}
use Rattle.verdict.specs.Codes.{codes, code_count}
use Rattle.verdict.proofs.ListLaws.{pick_short}
use Rattle.verdict.proofs.Promises.{code_count_lem}
use Rattle.facts.specs.Rules.{all_flags}
use Rattle.judge.specs.Refusal.{refusal}
use Rattle.judge.specs.Outcome.{Outcome, outcome, Judged, judged_outcome, refused_outcome}
use Rattle.table.specs.declared.Table.{Table}
use Rattle.table.specs.Noted.{noted}
use Rattle.buffer.specs.Text.{added}
use Rattle.buffer.proofs.TextLaws.{added_all}
use Rattle.printing.specs.Printed.{printed, longest}
use Rattle.printing.proofs.DecimalLaws.{printed_short}
use Rattle.checker.specs.declared.progress.Carried.{Carried}
use Rattle.checker.specs.Program.{judged}
use Rattle.checker.specs.Progress.{carried, Answered}

-- n is how many codes are listed, and no more than there are
pub record Counted (o : Outcome) : Type 0 where
  pub count_is : o.verdict.count ≡ length o.listed
  pub few : length o.listed ≤ code_count

pub outcome_counted : (c : Call) (room : ℕ) → Counted (outcome c room)
unfolding outcome verdict_of refused_by
outcome_counted c room = either (eqb (refusal c room) 0)
  where
    either : (t : Bool) → Counted (cond t (judged_outcome c) (refused_outcome c (refusal c room)))
    either true = record { count_is = refl; few = omega (arith, pick_short codes (all_flags c), code_count_lem) }
    either false = record { count_is = refl; few = omega arith }

-- the first n entries are what is listed
pub listed_is : {o : Outcome} {before findings register : List ℕ} {v : Verdict} → Counted o → Judged o before v findings register
    → take v.count findings ≡ o.listed
listed_is {o} counted e =
    (λ i. take ((ap (λ (w : Verdict). w.count) e.says ∙ counted.count_is) i) (e.lists i)) ∙ take-append_seam o.listed _

-- what the calls that answer a line leave, one after another
pub answered : {c : Carried} {line before findings register named none put : List ℕ} {table : Table} {v : Verdict}
    → Counted (judged line c.register) → Judged (judged line c.register) before v findings register → table ≡ noted c.table line v
    → none ≡ [] → named ≡ take v.count findings → put ≡ added longest none (printed c.number v.answer v.count named)
    → Answered c line put (carried c.number register table)
answered {c} {line} {named = named} {v = v} counted e notes empty listed p =
    let o : Outcome = judged line c.register in
    let same : named ≡ o.listed = listed ∙ listed_is counted e in
    let same_text : printed c.number v.answer v.count named ≡ printed c.number o.verdict.answer o.verdict.count o.listed =
    λ i. printed c.number (e.says i).answer (e.says i).count (same i) in
    record {
      prints =
          p ∙ (λ i. added longest (empty i) (same_text i))
          ∙ added_all longest [] (printed c.number o.verdict.answer o.verdict.count o.listed)
          (omega (arith, printed_short c.number o.verdict.answer o.verdict.count o.listed counted.few));
      carries = λ i. carried c.number (e.keeps i) ((notes ∙ ap (noted c.table line) e.says) i);
    }
