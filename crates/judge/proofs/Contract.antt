-- The contract of `judge` as it is generated from its source, in names: what a call gets, argument by argument in their order, what it leaves,
-- and that the contract says `Judged` of these, no more and no less, and asks for nothing.
use mathlib.Core.Path.{◌≡◌, refl}
use mathlib.Core.List.{List}
use Prim.Native.Nat.{ℕ}
use contract.Lifetimes.{Lfts}
use denote.Triple.Clauses.{AtExit}
use borrow.Fn.Kinds.{Dens, ended_of}
use lib.ListN.{length}
use Rattle.facts.specs.Call.{Call}
use Rattle.verdict.specs.declared.Verdict.{Verdict}
use Rattle.judge.specs.Outcome.{outcome, Judged}
use Rattle.judge.proofs.judge.Kinds as kinds
use Rattle.judge.proofs.judge.Reads as reads

module _ (κs : Lfts 8) where
  -- the eleven arguments, and the parameters when the call returns
  abbrev pub Arguments : Type 0
  Arguments = Dens κs kinds.ps

  abbrev pub Returned : Type 0
  Returned = AtExit (ended_of 8 kinds.ps kinds.r) κs

  module _ (a : Arguments) where
    abbrev pub call_of : Call
    call_of =
        record {
          line = a.0.now;
          lei = a.1.0.now;
          cty = a.1.1.0.now;
          ccy = a.1.1.1.0.now;
          ven = a.1.1.1.1.0.now;
          ins = a.1.1.1.1.1.0.now;
          register = a.1.1.1.1.1.1.0.now;
          day = a.1.1.1.1.1.1.1.0;
          micro = a.1.1.1.1.1.1.1.1.0;
          polish = a.1.1.1.1.1.1.1.1.1.0;
        }

    abbrev pub findings_before : List ℕ
    findings_before = a.1.1.1.1.1.1.1.1.1.1.0.now

  abbrev pub register_after : Returned → List ℕ
  register_after s = s.1.1.1.1.1.1.0.now

  abbrev pub findings_after : Returned → List ℕ
  findings_after s = s.1.1.1.1.1.1.1.1.1.1.0.now

  -- the outcome of the call, and nothing but it
  abbrev pub Promised : Arguments → Verdict → Returned → Type 0
  Promised a x s =
      Judged (outcome (call_of a) (length (findings_before a))) (findings_before a) x (findings_after s) (register_after s)

  -- what the code has to show, and what a caller learns
  pub judge_contract : (a : Arguments) (x : Verdict) (s : Returned) → reads.Post κs a x s ≡ Promised a x s
  judge_contract a x s = refl

  pub judge_learnt : (a : Arguments) (x : Verdict) (s : Returned) → reads.Learnt κs a x s ≡ Promised a x s
  judge_learnt a x s = refl

  -- it may be called with any bytes
  pub judge_asks_nothing : (a : Arguments) → reads.Asked κs a
  judge_asks_nothing a = tt
