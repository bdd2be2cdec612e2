-- Condition 1, of every call and whatever its contract permits.
use mathlib.Core.Path.{◌≡◌, ◌∙◌, refl, sym, ap}
use mathlib.Core.List.{List}
use Prim.Native.Nat.{ℕ, ◌≤◌}
use native.Mathlib.Omega.{arith}
use borrow.Author.Tests.{eqb-true}
use lib.Dec.{eqb}
use lib.ListN.{length}
use Rattle.text.specs.FirstFrom.{first_from}
use Rattle.text.proofs.Bools.{by_test}
use Rattle.facts.specs.Call.{Call}
use Rattle.verdict.specs.declared.Verdict.{Verdict}
use Rattle.verdict.specs.Verdict.{verdict_of, refused_by}
use Rattle.verdict.specs.Findings.{over}
use Rattle.judge.specs.Refusal.{tests, refusal}
use Rattle.judge.specs.Outcome.{Outcome, refused_outcome, judged_outcome, outcome, Judged}
use Rattle.judge.proofs.Firsts.{first_small}
use Rattle.conditions.specs.Condition1.{Condition1}

module _ (call : Call) {before findings left : List ℕ} {verdict : Verdict} (j : Judged (outcome call (length before)) before verdict findings left) where
  abbrev first : ℕ
  first = first_from 1 (tests call (length before))

  -- it is what the contract goes by
  refusal_is : refusal call (length before) ≡ first
  unfolding refusal
  refusal_is = refl

  few : first ≤ 11
  few = first_small 0 (tests call (length before))

  module _ (o : outcome call (length before) ≡ refused_outcome call first) where
    says : verdict ≡ refused_by first
    says = j.says ∙ ap (λ (x : Outcome). x.verdict) o

    when_refused : Condition1 call before verdict findings left
    unfolding refused_by
    when_refused =
        let number : verdict.answer ≡ first = ap (λ (v : Verdict). v.answer) says in
        record {
          number = number;
          most = omega (arith, few);
          no_finding = λ r. ap (λ (v : Verdict). v.count) says;
          no_bit = λ r. ap (λ (v : Verdict). v.words) says;
          findings_stay = λ r. j.lists ∙ ap (λ (x : Outcome). over x.listed before) o;
          register_stays = λ r. j.keeps ∙ ap (λ (x : Outcome). x.register) o;
        }

  module _ (none : first ≡ 0) (o : outcome call (length before) ≡ judged_outcome call) where
    when_judged : Condition1 call before verdict findings left
    unfolding verdict_of
    when_judged =
        let answer : verdict.answer ≡ 0 = ap (λ (v : Verdict). v.answer) (j.says ∙ ap (λ (x : Outcome). x.verdict) o) in
        record {
          number = answer ∙ sym none;
          most = omega arith;
          no_finding = λ r. absurd (r answer);
          no_bit = λ r. absurd (r answer);
          findings_stay = λ r. absurd (r answer);
          register_stays = λ r. absurd (r answer);
        }

  pub condition1 : Condition1 call before verdict findings left
  unfolding outcome
  condition1 =
      by_test (eqb (refusal call (length before)) 0)
      (λ t. when_judged (sym refusal_is ∙ eqb-true _ 0 t) (rw t))
      (λ t. when_refused (rw t (ap (refused_outcome call) refusal_is)))
