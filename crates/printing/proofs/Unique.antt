-- Each public function's contract determines its answer, and all that is kept.
use mathlib.Core.Path.{◌≡◌}
use contract.Lifetimes.{Lfts}
use denote.Triple.Clauses.{AtExit}
use borrow.Fn.Kinds.{Dens, res_t, ended_of}
use Prim.Native.Nat.{ℕ}
use mir.Syntax.{w64}
use mir.Val.{Fits}
use Rattle.text.proofs.Determined.{Seen, Left, same_both}
use Rattle.buffer.proofs.KeptLaws.{kept_once}
use Rattle.printing.proofs.lent.keep_answer.Kinds as keep_answer_kinds
use Rattle.printing.proofs.lent.keep_answer.Reads as keep_answer_reads
use Rattle.printing.proofs.lent.keep_row.Kinds as keep_row_kinds
use Rattle.printing.proofs.lent.keep_row.Reads as keep_row_reads
use Rattle.printing.proofs.listed.Kinds as listed_kinds
use Rattle.printing.proofs.listed.Reads as listed_reads
use Rattle.printing.proofs.push_answer.Kinds as push_answer_kinds
use Rattle.printing.proofs.push_answer.Reads as push_answer_reads
use Rattle.printing.proofs.report.push_row.Kinds as push_row_kinds
use Rattle.printing.proofs.report.push_row.Reads as push_row_reads
use Rattle.printing.proofs.report.put_row.Kinds as put_row_kinds
use Rattle.printing.proofs.report.put_row.Reads as put_row_reads

pub listed_determined : Seen listed_kinds.ps listed_kinds.r (λ κs x. x.now) listed_reads.Post
listed_determined κs a x y s t = same_both

pub push_answer_determined : (N : ℕ) (fits : Fits w64 N)
    → Left (push_answer_kinds.ps N fits) (push_answer_kinds.r N fits) (λ κs s. s.0.now) (push_answer_reads.Post N fits)
push_answer_determined N fits κs a x y s t = same_both

pub push_row_determined : (N : ℕ) (fits : Fits w64 N)
    → Left (push_row_kinds.ps N fits) (push_row_kinds.r N fits) (λ κs s. s.0.now) (push_row_reads.Post N fits)
push_row_determined N fits κs a x y s t p q = same_both p.keeps q.keeps

pub put_row_determined : (N : ℕ) (fits : Fits w64 N)
    → Left (put_row_kinds.ps N fits) (put_row_kinds.r N fits) (λ κs s. s.0.now) (put_row_reads.Post N fits)
put_row_determined N fits κs a x y s t p q = same_both p.keeps q.keeps

pub keep_answer_determined :
    (κs : Lfts 2) (a : Dens κs keep_answer_kinds.ps) (x y : (res_t keep_answer_kinds.r κs).Denot)
    (s t : AtExit (ended_of 2 keep_answer_kinds.ps keep_answer_kinds.r) κs)
    → keep_answer_reads.Post κs a x s → keep_answer_reads.Post κs a y t → (x ≡ y) × (s.0.now ≡ t.0.now)
keep_answer_determined κs a x y s t p q = kept_once p q

pub keep_row_determined :
    (κs : Lfts 2) (a : Dens κs keep_row_kinds.ps) (x y : (res_t keep_row_kinds.r κs).Denot)
    (s t : AtExit (ended_of 2 keep_row_kinds.ps keep_row_kinds.r) κs)
    → keep_row_reads.Post κs a x s → keep_row_reads.Post κs a y t → (x ≡ y) × (s.0.now ≡ t.0.now)
keep_row_determined κs a x y s t p q = kept_once p.keeps q.keeps
