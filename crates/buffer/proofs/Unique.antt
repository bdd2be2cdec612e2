-- Each public function's contract determines its answer and every byte of the buffer.
use mathlib.Core.Path.{◌≡◌}
use contract.Lifetimes.{Lfts}
use denote.Triple.Clauses.{AtExit}
use borrow.Fn.Kinds.{Dens, res_t, ended_of}
use Prim.Native.Nat.{ℕ}
use mir.Syntax.{w64}
use mir.Val.{Fits}
use Rattle.text.proofs.Determined.{Determined, Seen, Left, same_both}
use Rattle.buffer.proofs.KeptLaws.{kept_once}
use Rattle.buffer.proofs.keep.Kinds as keep_kinds
use Rattle.buffer.proofs.keep.Reads as keep_reads
use Rattle.buffer.proofs.keep_all.Kinds as keep_all_kinds
use Rattle.buffer.proofs.keep_all.Reads as keep_all_reads
use Rattle.buffer.proofs.kept.Text.new.Kinds as text_new_kinds
use Rattle.buffer.proofs.kept.Text.new.Reads as text_new_reads
use Rattle.buffer.proofs.kept.Text.clear.Kinds as text_clear_kinds
use Rattle.buffer.proofs.kept.Text.clear.Reads as text_clear_reads
use Rattle.buffer.proofs.kept.Text.push.Kinds as text_push_kinds
use Rattle.buffer.proofs.kept.Text.push.Reads as text_push_reads
use Rattle.buffer.proofs.kept.Text.push_all.Kinds as text_push_all_kinds
use Rattle.buffer.proofs.kept.Text.push_all.Reads as text_push_all_reads
use Rattle.buffer.proofs.kept.Text.as_slice.Kinds as text_as_slice_kinds
use Rattle.buffer.proofs.kept.Text.as_slice.Reads as text_as_slice_reads

pub keep_determined :
    (κs : Lfts 1) (a : Dens κs keep_kinds.ps) (x y : (res_t keep_kinds.r κs).Denot) (s t : AtExit (ended_of 1 keep_kinds.ps keep_kinds.r) κs)
    → keep_reads.Post κs a x s → keep_reads.Post κs a y t → (x ≡ y) × (s.0.now ≡ t.0.now)
keep_determined κs a x y s t p q = kept_once p q

pub keep_all_determined :
    (κs : Lfts 2) (a : Dens κs keep_all_kinds.ps) (x y : (res_t keep_all_kinds.r κs).Denot)
    (s t : AtExit (ended_of 2 keep_all_kinds.ps keep_all_kinds.r) κs)
    → keep_all_reads.Post κs a x s → keep_all_reads.Post κs a y t → (x ≡ y) × (s.0.now ≡ t.0.now)
keep_all_determined κs a x y s t p q = kept_once p q

pub text_new_determined : (N : ℕ) (fits : Fits w64 N) → Determined (text_new_kinds.ps N fits) (text_new_kinds.r N fits) (text_new_reads.Post N fits)
text_new_determined N fits κs a x y s t = same_both

pub text_clear_determined : (N : ℕ) (fits : Fits w64 N) → Left (text_clear_kinds.ps N fits) (text_clear_kinds.r N fits) (λ κs s. s.0.now) (text_clear_reads.Post N fits)
text_clear_determined N fits κs a x y s t = same_both

pub text_push_determined : (N : ℕ) (fits : Fits w64 N) → Left (text_push_kinds.ps N fits) (text_push_kinds.r N fits) (λ κs s. s.0.now) (text_push_reads.Post N fits)
text_push_determined N fits κs a x y s t = same_both

pub text_push_all_determined : (N : ℕ) (fits : Fits w64 N) → Left (text_push_all_kinds.ps N fits) (text_push_all_kinds.r N fits) (λ κs s. s.0.now) (text_push_all_reads.Post N fits)
text_push_all_determined N fits κs a x y s t p q = same_both p.0 q.0

pub text_as_slice_determined : (N : ℕ) (fits : Fits w64 N) → Seen (text_as_slice_kinds.ps N fits) (text_as_slice_kinds.r N fits) (λ κs x. x.now) (text_as_slice_reads.Post N fits)
text_as_slice_determined N fits κs a x y s t = same_both
