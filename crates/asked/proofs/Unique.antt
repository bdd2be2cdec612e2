-- Each public function's contract determines its answer.
use Rattle.text.proofs.Determined.{Determined, same_both}
use Rattle.asked.proofs.lei_fit.Kinds as lei_fit_kinds
use Rattle.asked.proofs.lei_fit.Reads as lei_fit_reads
use Rattle.asked.proofs.ask.Kinds as ask_kinds
use Rattle.asked.proofs.ask.Reads as ask_reads

pub lei_fit_determined : Determined lei_fit_kinds.ps lei_fit_kinds.r lei_fit_reads.Post
lei_fit_determined κs a x y s t = same_both

pub ask_determined : Determined ask_kinds.ps ask_kinds.r ask_reads.Post
ask_determined κs a x y s t = same_both
