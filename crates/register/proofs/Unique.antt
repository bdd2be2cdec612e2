-- Each public function's contract determines its answer, and every byte of the register that it leaves.
use mathlib.Core.Path.{◌≡◌}
use Prim.Native.Nat.{ℕ}
use contract.Lifetimes.{Lfts}
use denote.Triple.Clauses.{AtExit}
use borrow.Fn.Kinds.{Dens, ended_of}
use Rattle.text.proofs.Determined.{Determined, Left, same_both}
use Rattle.register.proofs.conversion.convert.Kinds as convert_kinds
use Rattle.register.proofs.conversion.convert.Reads as convert_reads
use Rattle.register.proofs.frame.row_width.Kinds as row_width_kinds
use Rattle.register.proofs.frame.row_width.Reads as row_width_reads
use Rattle.register.proofs.frame.used.Kinds as used_kinds
use Rattle.register.proofs.frame.used.Reads as used_reads
use Rattle.register.proofs.frame.full.Kinds as full_kinds
use Rattle.register.proofs.frame.full.Reads as full_reads
use Rattle.register.proofs.pairs.pair_bytes.Kinds as pair_bytes_kinds
use Rattle.register.proofs.pairs.pair_bytes.Reads as pair_bytes_reads
use Rattle.register.proofs.rows.find.Kinds as find_kinds
use Rattle.register.proofs.rows.find.Reads as find_reads
use Rattle.register.proofs.rows.standing_at.Kinds as standing_at_kinds
use Rattle.register.proofs.rows.standing_at.Reads as standing_at_reads
use Rattle.register.proofs.rows.standing_of.Kinds as standing_of_kinds
use Rattle.register.proofs.rows.standing_of.Reads as standing_of_reads
use Rattle.register.proofs.writes.set_live.Kinds as set_live_kinds
use Rattle.register.proofs.writes.set_live.Reads as set_live_reads
use Rattle.register.proofs.writes.set_cancelled.Kinds as set_cancelled_kinds
use Rattle.register.proofs.writes.set_cancelled.Reads as set_cancelled_reads

pub used_determined : Determined used_kinds.ps used_kinds.r used_reads.Post
used_determined κs a x y s t = same_both

pub row_width_determined : Determined row_width_kinds.ps row_width_kinds.r row_width_reads.Post
row_width_determined κs a x y s t = same_both

pub full_determined : Determined full_kinds.ps full_kinds.r full_reads.Post
full_determined κs a x y s t = same_both

pub pair_bytes_determined : Determined pair_bytes_kinds.ps pair_bytes_kinds.r pair_bytes_reads.Post
pair_bytes_determined κs a x y s t = same_both

pub find_determined : Determined find_kinds.ps find_kinds.r find_reads.Post
find_determined κs a x y s t = same_both

pub standing_at_determined : Determined standing_at_kinds.ps standing_at_kinds.r standing_at_reads.Post
standing_at_determined κs a x y s t = same_both

pub standing_of_determined : Determined standing_of_kinds.ps standing_of_kinds.r standing_of_reads.Post
standing_of_determined κs a x y s t = same_both

pub set_live_determined : Left set_live_kinds.ps set_live_kinds.r (λ κs s. s.0.now) set_live_reads.Post
set_live_determined κs a x y s t = same_both

pub set_cancelled_determined : Left set_cancelled_kinds.ps set_cancelled_kinds.r (λ κs s. s.0.now) set_cancelled_reads.Post
set_cancelled_determined κs a x y s t = same_both

-- the answer, and the target
pub convert_determined :
    (κs : Lfts 2) (a : Dens κs convert_kinds.ps) (x y : ℕ) (s t : AtExit (ended_of 2 convert_kinds.ps convert_kinds.r) κs)
    → convert_reads.Post κs a x s → convert_reads.Post κs a y t → (x ≡ y) × (s.1.0.now ≡ t.1.0.now)
convert_determined κs a x y s t p q = (same_both p.says q.says, same_both p.leaves q.leaves)
