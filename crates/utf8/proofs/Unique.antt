-- Each public function's contract determines its answer.
use Rattle.text.proofs.Determined.{Determined, same_both}
use Rattle.utf8.proofs.code_points.Kinds as code_points_kinds
use Rattle.utf8.proofs.code_points.Reads as code_points_reads
use Rattle.utf8.proofs.points_within.Kinds as points_within_kinds
use Rattle.utf8.proofs.points_within.Reads as points_within_reads

pub code_points_determined : Determined code_points_kinds.ps code_points_kinds.r code_points_reads.Post
code_points_determined κs a x y s t = same_both

pub points_within_determined : Determined points_within_kinds.ps points_within_kinds.r points_within_reads.Post
points_within_determined κs a x y s t = same_both
