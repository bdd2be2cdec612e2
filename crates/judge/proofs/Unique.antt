-- The contract of a call determines its answer, and every byte of the findings buffer and of the register.
use mathlib.Core.Path.{◌≡◌}
use contract.Lifetimes.{Lfts}
use Rattle.text.proofs.Determined.{same_both}
use Rattle.verdict.specs.declared.Verdict.{Verdict}
use Rattle.judge.proofs.judge.Reads as reads
use Rattle.judge.proofs.Contract.{Arguments, Returned, register_after, findings_after}

pub judge_determined :
    (κs : Lfts 8) (a : Arguments κs) (x y : Verdict) (s t : Returned κs) → reads.Post κs a x s → reads.Post κs a y t
    → (x ≡ y) × (register_after κs s ≡ register_after κs t) × (findings_after κs s ≡ findings_after κs t)
judge_determined κs a x y s t p q = (same_both p.says q.says, same_both p.keeps q.keeps, same_both p.lists q.lists)
