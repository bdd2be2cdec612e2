-- Each public function's contract determines its answer.
use Rattle.text.proofs.Determined.{Determined, same_both}
use Rattle.baskets.proofs.underlying.is_underlying.Kinds as is_underlying_kinds
use Rattle.baskets.proofs.underlying.is_underlying.Reads as is_underlying_reads
use Rattle.baskets.proofs.underlying.parse_underlying.Kinds as parse_underlying_kinds
use Rattle.baskets.proofs.underlying.parse_underlying.Reads as parse_underlying_reads
use Rattle.baskets.proofs.underlying.terms_fit.Kinds as terms_fit_kinds
use Rattle.baskets.proofs.underlying.terms_fit.Reads as terms_fit_reads

pub is_underlying_determined : Determined is_underlying_kinds.ps is_underlying_kinds.r is_underlying_reads.Post
is_underlying_determined κs a x y s t = same_both

pub parse_underlying_determined : Determined parse_underlying_kinds.ps parse_underlying_kinds.r parse_underlying_reads.Post
parse_underlying_determined κs a x y s t = same_both

pub terms_fit_determined : Determined terms_fit_kinds.ps terms_fit_kinds.r terms_fit_reads.Post
terms_fit_determined κs a x y s t = same_both
