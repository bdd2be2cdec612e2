-- Each public function's contract determines its answer.
use Rattle.text.proofs.Determined.{Determined, same_both}
use Rattle.lists.proofs.frame.framed.Kinds as framed_kinds
use Rattle.lists.proofs.frame.framed.Reads as framed_reads
use Rattle.lists.proofs.lookups.lei_rows.Kinds as lei_rows_kinds
use Rattle.lists.proofs.lookups.lei_rows.Reads as lei_rows_reads
use Rattle.lists.proofs.lookups.country_known.Kinds as country_known_kinds
use Rattle.lists.proofs.lookups.country_known.Reads as country_known_reads
use Rattle.lists.proofs.lookups.currency_rows.Kinds as currency_rows_kinds
use Rattle.lists.proofs.lookups.currency_rows.Reads as currency_rows_reads
use Rattle.lists.proofs.lookups.venue_rows.Kinds as venue_rows_kinds
use Rattle.lists.proofs.lookups.venue_rows.Reads as venue_rows_reads
use Rattle.lists.proofs.lookups.instrument_rows.Kinds as instrument_rows_kinds
use Rattle.lists.proofs.lookups.instrument_rows.Reads as instrument_rows_reads

pub framed_determined : Determined framed_kinds.ps framed_kinds.r framed_reads.Post
framed_determined κs a x y s t = same_both

pub lei_rows_determined : Determined lei_rows_kinds.ps lei_rows_kinds.r lei_rows_reads.Post
lei_rows_determined κs a x y s t = same_both

pub country_known_determined : Determined country_known_kinds.ps country_known_kinds.r country_known_reads.Post
country_known_determined κs a x y s t = same_both

pub currency_rows_determined : Determined currency_rows_kinds.ps currency_rows_kinds.r currency_rows_reads.Post
currency_rows_determined κs a x y s t = same_both

pub venue_rows_determined : Determined venue_rows_kinds.ps venue_rows_kinds.r venue_rows_reads.Post
venue_rows_determined κs a x y s t = same_both

pub instrument_rows_determined : Determined instrument_rows_kinds.ps instrument_rows_kinds.r instrument_rows_reads.Post
instrument_rows_determined κs a x y s t = same_both
