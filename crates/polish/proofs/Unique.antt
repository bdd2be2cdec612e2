-- Each public function's contract determines its answer.
use Rattle.text.proofs.Determined.{Determined, same_both}
use Rattle.polish.proofs.births.birth_day.Kinds as birth_day_kinds
use Rattle.polish.proofs.births.birth_day.Reads as birth_day_reads
use Rattle.polish.proofs.births.is_birth.Kinds as is_birth_kinds
use Rattle.polish.proofs.births.is_birth.Reads as is_birth_reads
use Rattle.polish.proofs.cells.polish_of.Kinds as polish_of_kinds
use Rattle.polish.proofs.cells.polish_of.Reads as polish_of_reads
use Rattle.polish.proofs.numbers.nip_right.Kinds as nip_right_kinds
use Rattle.polish.proofs.numbers.nip_right.Reads as nip_right_reads
use Rattle.polish.proofs.numbers.pesel_right.Kinds as pesel_right_kinds
use Rattle.polish.proofs.numbers.pesel_right.Reads as pesel_right_reads

pub birth_day_determined : Determined birth_day_kinds.ps birth_day_kinds.r birth_day_reads.Post
birth_day_determined κs a x y s t = same_both

pub is_birth_determined : Determined is_birth_kinds.ps is_birth_kinds.r is_birth_reads.Post
is_birth_determined κs a x y s t = same_both

pub polish_of_determined : Determined polish_of_kinds.ps polish_of_kinds.r polish_of_reads.Post
polish_of_determined κs a x y s t = same_both

pub nip_right_determined : Determined nip_right_kinds.ps nip_right_kinds.r nip_right_reads.Post
nip_right_determined κs a x y s t = same_both

pub pesel_right_determined : Determined pesel_right_kinds.ps pesel_right_kinds.r pesel_right_reads.Post
pesel_right_determined κs a x y s t = same_both
