-- Each public function's contract determines its answer, and the table that it leaves.
use mathlib.Core.Path.{◌≡◌}
use contract.Lifetimes.{Lfts}
use denote.Triple.Clauses.{AtExit}
use borrow.Fn.Kinds.{Dens, res_t, ended_of}
use Rattle.text.proofs.Determined.{Determined, same_both}
use Rattle.table.proofs.Table.empty.Kinds as empty_kinds
use Rattle.table.proofs.Table.empty.Reads as empty_reads
use Rattle.table.proofs.record_in.Kinds as record_in_kinds
use Rattle.table.proofs.record_in.Reads as record_in_reads
use Rattle.table.proofs.Table.record_at.Kinds as record_at_kinds
use Rattle.table.proofs.Table.record_at.Reads as record_at_reads
use Rattle.table.proofs.Table.note.Kinds as note_kinds
use Rattle.table.proofs.Table.note.Reads as note_reads

pub empty_determined : Determined empty_kinds.ps empty_kinds.r empty_reads.Post
empty_determined κs a x y s t = same_both

pub record_in_determined : Determined record_in_kinds.ps record_in_kinds.r record_in_reads.Post
record_in_determined κs a x y s t = same_both

pub record_at_determined : Determined record_at_kinds.ps record_at_kinds.r record_at_reads.Post
record_at_determined κs a x y s t = same_both

pub note_determined :
    (κs : Lfts 2) (a : Dens κs note_kinds.ps) (x y : (res_t note_kinds.r κs).Denot) (s t : AtExit (ended_of 2 note_kinds.ps note_kinds.r) κs)
    → note_reads.Post κs a x s → note_reads.Post κs a y t → s.0.now ≡ t.0.now
note_determined κs a x y s t p q = same_both p q
