-- Each public function's contract determines its answer.
use Rattle.text.proofs.Determined.{Determined, Left, same_both}
use Rattle.verdict.proofs.judged.Kinds as judged_kinds
use Rattle.verdict.proofs.judged.Reads as judged_reads
use Rattle.verdict.proofs.refused.Kinds as refused_kinds
use Rattle.verdict.proofs.refused.Reads as refused_reads
use Rattle.verdict.proofs.place.Kinds as place_kinds
use Rattle.verdict.proofs.place.Reads as place_reads
use Rattle.verdict.proofs.entries_needed.Kinds as entries_needed_kinds
use Rattle.verdict.proofs.entries_needed.Reads as entries_needed_reads
use Rattle.verdict.proofs.list_by_words.Kinds as list_by_words_kinds
use Rattle.verdict.proofs.list_by_words.Reads as list_by_words_reads

pub judged_determined : Determined judged_kinds.ps judged_kinds.r judged_reads.Post
judged_determined κs a x y s t = same_both

pub refused_determined : Determined refused_kinds.ps refused_kinds.r refused_reads.Post
refused_determined κs a x y s t = same_both

pub place_determined : Determined place_kinds.ps place_kinds.r place_reads.Post
place_determined κs a x y s t = same_both

pub entries_needed_determined : Determined entries_needed_kinds.ps entries_needed_kinds.r entries_needed_reads.Post
entries_needed_determined κs a x y s t = same_both

-- every entry of the findings lent
pub list_by_words_determined : Left list_by_words_kinds.ps list_by_words_kinds.r (λ κs s. s.1.0.now) list_by_words_reads.Post
list_by_words_determined κs a x y s t = same_both
