-- Each public function's contract determines its answer.
use Rattle.text.proofs.Determined.{Determined, same_both}
use Rattle.calendar.proofs.dates.parse_date.Kinds as parse_date_kinds
use Rattle.calendar.proofs.dates.parse_date.Reads as parse_date_reads
use Rattle.calendar.proofs.dates.is_date.Kinds as is_date_kinds
use Rattle.calendar.proofs.dates.is_date.Reads as is_date_reads
use Rattle.calendar.proofs.days.is_day.Kinds as is_day_kinds
use Rattle.calendar.proofs.days.is_day.Reads as is_day_reads
use Rattle.calendar.proofs.days.is_day_of.Kinds as is_day_of_kinds
use Rattle.calendar.proofs.days.is_day_of.Reads as is_day_of_reads
use Rattle.calendar.proofs.days.five_years_before.Kinds as five_years_before_kinds
use Rattle.calendar.proofs.days.five_years_before.Reads as five_years_before_reads
use Rattle.calendar.proofs.moments.parse_moment.Kinds as parse_moment_kinds
use Rattle.calendar.proofs.moments.parse_moment.Reads as parse_moment_reads
use Rattle.calendar.proofs.moments.is_when.Kinds as is_when_kinds
use Rattle.calendar.proofs.moments.is_when.Reads as is_when_reads
use Rattle.calendar.proofs.moments.is_moment.Kinds as is_moment_kinds
use Rattle.calendar.proofs.moments.is_moment.Reads as is_moment_reads
use Rattle.calendar.proofs.moments.is_before.Kinds as is_before_kinds
use Rattle.calendar.proofs.moments.is_before.Reads as is_before_reads

pub parse_date_determined : Determined parse_date_kinds.ps parse_date_kinds.r parse_date_reads.Post
parse_date_determined κs a x y s t = same_both

pub is_date_determined : Determined is_date_kinds.ps is_date_kinds.r is_date_reads.Post
is_date_determined κs a x y s t = same_both

pub is_day_determined : Determined is_day_kinds.ps is_day_kinds.r is_day_reads.Post
is_day_determined κs a x y s t = same_both

pub is_day_of_determined : Determined is_day_of_kinds.ps is_day_of_kinds.r is_day_of_reads.Post
is_day_of_determined κs a x y s t = same_both

pub five_years_before_determined : Determined five_years_before_kinds.ps five_years_before_kinds.r five_years_before_reads.Post
five_years_before_determined κs a x y s t = same_both

pub parse_moment_determined : Determined parse_moment_kinds.ps parse_moment_kinds.r parse_moment_reads.Post
parse_moment_determined κs a x y s t = same_both

pub is_when_determined : Determined is_when_kinds.ps is_when_kinds.r is_when_reads.Post
is_when_determined κs a x y s t = same_both

pub is_moment_determined : Determined is_moment_kinds.ps is_moment_kinds.r is_moment_reads.Post
is_moment_determined κs a x y s t = same_both

pub is_before_determined : Determined is_before_kinds.ps is_before_kinds.r is_before_reads.Post
is_before_determined κs a x y s t = same_both
