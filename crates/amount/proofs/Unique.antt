-- Each public function's contract determines its answer.
use Rattle.text.proofs.Determined.{Determined, same_both}
use Rattle.amount.proofs.is_decimal.Kinds as is_decimal_kinds
use Rattle.amount.proofs.is_decimal.Reads as is_decimal_reads
use Rattle.amount.proofs.parse_signed.Kinds as parse_signed_kinds
use Rattle.amount.proofs.parse_signed.Reads as parse_signed_reads
use Rattle.amount.proofs.signed_kind.Kinds as signed_kind_kinds
use Rattle.amount.proofs.signed_kind.Reads as signed_kind_reads
use Rattle.amount.proofs.parse_price.Kinds as parse_price_kinds
use Rattle.amount.proofs.parse_price.Reads as parse_price_reads
use Rattle.amount.proofs.parse_quantity.Kinds as parse_quantity_kinds
use Rattle.amount.proofs.parse_quantity.Reads as parse_quantity_reads
use Rattle.amount.proofs.price_kind.Kinds as price_kind_kinds
use Rattle.amount.proofs.price_kind.Reads as price_kind_reads
use Rattle.amount.proofs.quantity_kind.Kinds as quantity_kind_kinds
use Rattle.amount.proofs.quantity_kind.Reads as quantity_kind_reads

pub is_decimal_determined : Determined is_decimal_kinds.ps is_decimal_kinds.r is_decimal_reads.Post
is_decimal_determined κs a x y s t = same_both

pub parse_signed_determined : Determined parse_signed_kinds.ps parse_signed_kinds.r parse_signed_reads.Post
parse_signed_determined κs a x y s t = same_both

pub signed_kind_determined : Determined signed_kind_kinds.ps signed_kind_kinds.r signed_kind_reads.Post
signed_kind_determined κs a x y s t = same_both

pub parse_price_determined : Determined parse_price_kinds.ps parse_price_kinds.r parse_price_reads.Post
parse_price_determined κs a x y s t = same_both

pub parse_quantity_determined : Determined parse_quantity_kinds.ps parse_quantity_kinds.r parse_quantity_reads.Post
parse_quantity_determined κs a x y s t = same_both

pub price_kind_determined : Determined price_kind_kinds.ps price_kind_kinds.r price_kind_reads.Post
price_kind_determined κs a x y s t = same_both

pub quantity_kind_determined : Determined quantity_kind_kinds.ps quantity_kind_kinds.r quantity_kind_reads.Post
quantity_kind_determined κs a x y s t = same_both
