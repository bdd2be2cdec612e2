-- Why 4,098 bytes of a line are enough: a line of at most 4,097 bytes is kept whole, and of a longer one what is kept and what
-- there was are both over 4,096 bytes without the CR, so that both have the same outcome, and the same is counted of them.
use mathlib.Core.Path.{◌≡◌, ◌∙◌, sym, ap}
use mathlib.Core.Bool.{Bool, true, false}
use mathlib.Core.List.{List, [], ◌∷◌, ◌++◌}
use Prim.Native.Nat.{ℕ, suc, ◌+◌, ◌≤◌, ◌<◌}
use native.Mathlib.Omega.{arith}
use lib.Dec.{leb}
use lib.ListN.{length, take, length-take}
use lib.Seq.{take_all}
use borrow.Author.Tests.{lt-ltb, leb-true, leb-false, ne_eqb}
use Rattle.text.specs.FirstFrom.{first_from}
use Rattle.text.proofs.Bools.{by_test}
use Rattle.verdict.specs.Codes.{code_count}
use Rattle.verdict.specs.Verdict.{refused_by}
use Rattle.summary.specs.declared.Line.{Line}
use Rattle.summary.specs.Judged.{of_no_entity, kind_of, line_of}
use Rattle.summary.specs.Noting.{note_of}
use Rattle.table.specs.declared.Table.{Table}
use Rattle.table.specs.Noted.{left, noted}
use Rattle.judge.specs.Refusal.{early}
use Rattle.judge.specs.Outcome.{Outcome, refused_outcome}
use Rattle.judge.proofs.Cases.{out_early}
use Rattle.checker.specs.Bare.{bare}
use Rattle.checker.specs.Setting.{called}
use Rattle.checker.specs.Program.{judged}
use Rattle.checker.specs.Progress.{room}

-- at most one byte is dropped
one_less : (s : List ℕ) → length s ≤ suc (length (bare s))
unfolding bare
one_less [] = omega arith
one_less (b ∷ []) = omega arith
one_less (b ∷ c ∷ s) = omega (arith, one_less (c ∷ s))

-- the last of some tests holds: the first that does is one of them
stops : (n : ℕ) (tests : List Bool) → (n ≤ first_from n (tests ++ (true ∷ []))) × (first_from n (tests ++ (true ∷ [])) ≤ n + length tests)
unfolding first_from
stops n [] = (omega arith, omega arith)
stops n (true ∷ tests) = (omega arith, omega arith)
stops n (false ∷ tests) = (omega (arith, (stops (suc n) tests).0), omega (arith, (stops (suc n) tests).1))

-- the tests of refusals 1 to 8 do not read the line
abbrev first_eight : List ℕ → List Bool
first_eight register = take 8 (early (called [] register) code_count)

abbrev first_refusal : List ℕ → ℕ
first_refusal register = first_from 1 (first_eight register ++ (true ∷ []))

refused_early : (s register : List ℕ) → 4096 < length s → judged s register ≡ refused_outcome (called [] register) (first_refusal register)
unfolding judged
refused_early s register h =
    let e : early (called s register) code_count ≡ first_eight register ++ (true ∷ []) =
    ap (λ (t : Bool). first_eight register ++ (t ∷ [])) (lt-ltb 4096 (length s) h) in
    out_early (called s register) code_count (λ z. let none : first_refusal register ≡ 0 = rw e at z in omega (arith, (stops 1 (first_eight register)).0))
    ∙ ap (λ (l : List Bool). refused_outcome (called [] register) (first_from 1 l)) e

-- of a line refused by 1 to 10 nothing is counted but the refusal
refused_alike : (s t : List ℕ) (number : ℕ) → 1 ≤ number → number ≤ 10 → line_of s (refused_by number) ≡ line_of t (refused_by number)
unfolding line_of of_no_entity kind_of refused_by
refused_alike s t number h k = rw (ne_eqb number 0 (λ e. omega arith), ne_eqb number 11 (λ e. omega arith))

-- two lines have the same outcome over a register, and the same is counted of them
pub record Alike (s t register : List ℕ) : Type 0 where
  pub outcome_is : judged s register ≡ judged t register
  pub counted_is : line_of s (judged s register).verdict ≡ line_of t (judged t register).verdict

pub noted_alike : {s t register : List ℕ} → Alike s t register → (table : Table)
    → noted table s (judged s register).verdict ≡ noted table t (judged t register).verdict
unfolding noted
noted_alike a table = ap (λ (l : Line). left (note_of table.records table.common l)) a.counted_is

same_line : {s t : List ℕ} (register : List ℕ) → s ≡ t → Alike s t register
same_line register e =
    record {
      outcome_is = ap (λ (l : List ℕ). judged l register) e;
      counted_is = ap (λ (l : List ℕ). line_of l (judged l register).verdict) e;
    }

-- two lines that are both too long
long_enough : (s t register : List ℕ) → 4096 < length s → 4096 < length t → Alike s t register
long_enough s t register h k =
    record {
      outcome_is = refused_early s register h ∙ sym (refused_early t register k);
      counted_is =
          ap (λ (o : Outcome). line_of s o.verdict) (refused_early s register h)
          ∙ refused_alike s t (first_refusal register) (stops 1 (first_eight register)).0 (omega (arith, (stops 1 (first_eight register)).1))
          ∙ sym (ap (λ (o : Outcome). line_of t o.verdict) (refused_early t register k));
    }

-- a line that LF has ended, and a last line without LF
pub kept_ended : (s register : List ℕ) → Alike (bare (take room s)) (bare s) register
kept_ended s register =
    by_test (leb (length s) 4098)
    (λ t. same_line register (ap bare (take_all room s (leb-true (length s) 4098 t))))
    (λ t.
    let long : 4098 < length s = leb-false (length s) 4098 t in
    let kept : length (take room s) ≡ 4098 = rw length-take (omega arith) in
    long_enough (bare (take room s)) (bare s) register (omega (arith, one_less (take room s))) (omega (arith, one_less s)))

pub kept_last : (s register : List ℕ) → Alike (take room s) s register
kept_last s register =
    by_test (leb (length s) 4098)
    (λ t. same_line register (take_all room s (leb-true (length s) 4098 t)))
    (λ t.
    let long : 4098 < length s = leb-false (length s) 4098 t in
    long_enough (take room s) s register (rw length-take (omega arith)) (omega arith))
