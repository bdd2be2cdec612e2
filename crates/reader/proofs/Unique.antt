-- Each public function's contract determines its answer. A step's is determined as to the bytes of the cell, the place and whether it is
-- done; where the cell stands in memory no contract says.
use Prim.Native.Nat.{ℕ}
use mathlib.Core.Bool.{Bool}
use mathlib.Core.List.{List}
use Rattle.reader.specs.declared.Taken.{Taken}
use Rattle.text.proofs.Determined.{Seen, Determined, SeenByHand, DeterminedByHand, from_both, same_both}
use Rattle.reader.specs.contracts.new as new
use Rattle.reader.specs.contracts.step as step
use Rattle.reader.proofs.new.Kinds as new_kinds
use Rattle.reader.proofs.new.Reads as new_reads
use Rattle.reader.proofs.step.Kinds as step_kinds
use Rattle.reader.proofs.step.Reads as step_reads
use Rattle.reader.proofs.is_done.Kinds as is_done_kinds
use Rattle.reader.proofs.is_done.Reads as is_done_reads
use Rattle.reader.proofs.place_after.Kinds as place_after_kinds
use Rattle.reader.proofs.place_after.Reads as place_after_reads
use Rattle.reader.proofs.cell_before.Kinds as cell_before_kinds
use Rattle.reader.proofs.cell_before.Reads as cell_before_reads
use Rattle.reader.proofs.first.Kinds as first_kinds
use Rattle.reader.proofs.first.Reads as first_reads
use Rattle.reader.proofs.step_from.Kinds as step_from_kinds
use Rattle.reader.proofs.step_from.Reads as step_from_reads

pub is_done_determined : Determined is_done_kinds.ps is_done_kinds.r is_done_reads.Post
is_done_determined κs a x y s t = same_both

pub place_after_determined : Determined place_after_kinds.ps place_after_kinds.r place_after_reads.Post
place_after_determined κs a x y s t = same_both

pub cell_before_determined : Seen cell_before_kinds.ps cell_before_kinds.r (λ κs x. x.now) cell_before_reads.Post
cell_before_determined κs a x y s t = same_both

pub first_determined : Seen first_kinds.ps first_kinds.r (λ κs x. x.now) first_reads.Post
first_determined κs a x y s t = same_both

-- of `new` and `step` it is said in the program logic, and of the plain reading of their contracts too
pub new_determined : DeterminedByHand new.ended (λ M 𝓤 𝓛. new.clauses 𝓛)
new_determined M 𝓤 𝓛 mem run κs a g x y s t = from_both 𝓤 _ _ _ same_both

pub new_read_determined : Determined new_kinds.ps new_kinds.r new_reads.Post
new_read_determined κs a x y s t = same_both

abbrev shown : Taken → List ℕ × (ℕ × Bool)
shown t = (t.cell.now, (t.next, t.done))

pub step_determined : SeenByHand step.ended (λ κs t. shown t) (λ M 𝓤 𝓛. step.clauses 𝓛)
step_determined M 𝓤 𝓛 mem run κs a g x y s t =
    from_both 𝓤 _ _ _ (λ p q i. (same_both p.hands q.hands i, (same_both p.places q.places i, same_both p.ends q.ends i)))

pub step_read_determined : Seen step_kinds.ps step_kinds.r (λ κs t. shown t) step_reads.Post
step_read_determined κs a x y s t =
    λ p q i. (same_both p.hands q.hands i, (same_both p.places q.places i, same_both p.ends q.ends i))

pub step_from_determined : Determined step_from_kinds.ps step_from_kinds.r step_from_reads.Post
step_from_determined κs a x y s t = same_both
