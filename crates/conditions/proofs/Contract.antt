-- The three conditions of `judge` itself: its contract, as it stands over the code, is what they speak of.
use mathlib.Core.Path.{refl}
use mathlib.Core.List.{List, ◌∷◌}
use Prim.Native.Nat.{ℕ}
use contract.Lifetimes.{Lfts}
use denote.Triple.Clauses.{AtExit}
use borrow.Fn.Kinds.{Dens, ended_of}
use lib.ListN.{length}
use Rattle.register.specs.Frame.{capacity}
use Rattle.register.proofs.convert.Kinds as convert_kinds
use Rattle.register.proofs.convert.Met.{met as convert_met}
use Rattle.register.proofs.convert.Reads as convert_reads
use Rattle.register.proofs.convert.Statement.{statement as convert_statement}
use Rattle.verdict.specs.declared.Verdict.{Verdict}
use Rattle.judge.proofs.judge.Met.{met}
use Rattle.judge.proofs.judge.Statement.{statement}
use Rattle.judge.proofs.judge.Reads as reads
use Rattle.judge.proofs.Contract.{Arguments, Returned, call_of, findings_before, findings_after, register_after, judge_asks_nothing}
use Rattle.conditions.specs.Condition1.{Condition1}
use Rattle.conditions.specs.Condition2.{Condition2}
use Rattle.conditions.specs.Condition3.{Event, Line, Conversion, Run, next, convert, Follows, Condition3}
use Rattle.conditions.proofs.Condition1.{condition1}
use Rattle.conditions.proofs.Condition2.{condition2}
use Rattle.conditions.proofs.Condition3.{condition3}

-- every call answers and ends, for any bytes handed to it: on the language's machine `judge` meets its contract, which asks for nothing
pub answers : {M : Type 1} → statement M
answers = met

pub any_bytes : (κs : Lfts 8) (a : Arguments κs) → reads.Asked κs a
any_bytes = judge_asks_nothing

-- whatever the contract permits
module _ (κs : Lfts 8) (a : Arguments κs) (x : Verdict) (s : Returned κs) (post : reads.Post κs a x s) where
  pub judge_condition1 : Condition1 (call_of κs a) (findings_before κs a) x (findings_after κs s) (register_after κs s)
  judge_condition1 = condition1 (call_of κs a) post

  pub judge_condition2 : Condition2 (call_of κs a) (findings_before κs a) x (findings_after κs s) (register_after κs s)
  judge_condition2 = condition2 (call_of κs a) post

  -- it is a step of a run, and answers by the history that led to its register
  module _ {c : ℕ} {history : List Event} (run : Run c history (call_of κs a).register) where
    pub steps : Run c (Line (record { line = (call_of κs a).line; day = (call_of κs a).day; verdict = x }) ∷ history) (register_after κs s)
    steps = next (call_of κs a) run post

    pub judge_condition3 : Condition3 c (Line (record { line = (call_of κs a).line; day = (call_of κs a).day; verdict = x }) ∷ history) (register_after κs s)
    judge_condition3 = condition3 steps

    pub judge_follows : Follows c history (call_of κs a) (length (findings_before κs a)) x (findings_after κs s)
    judge_follows = (condition3 run).follows (call_of κs a) refl post

-- and so of `convert`: it answers and ends, for any bytes, and where it answers 0 it is a step of a run
pub converts_answers : {M : Type 1} → convert_statement M
converts_answers = convert_met

module _ (κs : Lfts 2) (a : Dens κs convert_kinds.ps) where
  pub convert_any_bytes : convert_reads.Asked κs a
  convert_any_bytes = tt

  pub converts :
      {c : ℕ} {history : List Event} (s : AtExit (ended_of 2 convert_kinds.ps convert_kinds.r) κs) → Run c history a.0.now → convert_reads.Post κs a 0 s
      → Run (capacity s.1.0.now) (Conversion ∷ history) s.1.0.now
  converts s run post = convert run post
