-- Each public function's contract determines its answer.
use Rattle.text.proofs.Determined.{Seen, Determined, same_both}
use Rattle.facts.proofs.money.second_currency.Kinds as second_currency_kinds
use Rattle.facts.proofs.money.second_currency.Reads as second_currency_reads
use Rattle.facts.proofs.times.trade_day.Kinds as trade_day_kinds
use Rattle.facts.proofs.times.trade_day.Reads as trade_day_reads
use Rattle.facts.proofs.lines.good_cells.Kinds as good_cells_kinds
use Rattle.facts.proofs.lines.good_cells.Reads as good_cells_reads
use Rattle.facts.proofs.lines.is_cancelled.Kinds as is_cancelled_kinds
use Rattle.facts.proofs.lines.is_cancelled.Reads as is_cancelled_reads
use Rattle.facts.proofs.lines.is_absent.Kinds as is_absent_kinds
use Rattle.facts.proofs.lines.is_absent.Reads as is_absent_reads
use Rattle.facts.proofs.lines.line_facts.Kinds as line_facts_kinds
use Rattle.facts.proofs.lines.line_facts.Reads as line_facts_reads
use Rattle.facts.proofs.polish_cells.polish_facts.Kinds as polish_facts_kinds
use Rattle.facts.proofs.polish_cells.polish_facts.Reads as polish_facts_reads

pub trade_day_determined : Determined trade_day_kinds.ps trade_day_kinds.r trade_day_reads.Post
trade_day_determined κs a x y s t = same_both

pub line_facts_determined : Determined line_facts_kinds.ps line_facts_kinds.r line_facts_reads.Post
line_facts_determined κs a x y s t = same_both

pub polish_facts_determined : Determined polish_facts_kinds.ps polish_facts_kinds.r polish_facts_reads.Post
polish_facts_determined κs a x y s t = same_both

pub is_absent_determined : Determined is_absent_kinds.ps is_absent_kinds.r is_absent_reads.Post
is_absent_determined κs a x y s t = same_both

pub is_cancelled_determined : Determined is_cancelled_kinds.ps is_cancelled_kinds.r is_cancelled_reads.Post
is_cancelled_determined κs a x y s t = same_both

pub good_cells_determined : Determined good_cells_kinds.ps good_cells_kinds.r good_cells_reads.Post
good_cells_determined κs a x y s t = same_both

pub second_currency_determined : Seen second_currency_kinds.ps second_currency_kinds.r (λ κs x. x.now) second_currency_reads.Post
second_currency_determined κs a x y s t = same_both
