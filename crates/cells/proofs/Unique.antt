-- Each public function's contract determines its answer.
use Rattle.text.proofs.Determined.{Seen, same_both}
use Rattle.cells.specs.Parted.{in_places}
use Rattle.cells.proofs.pass.split.Kinds as split_kinds
use Rattle.cells.proofs.pass.split.Reads as split_reads
use Rattle.cells.proofs.line.SplitLine.cell.Kinds as cell_kinds
use Rattle.cells.proofs.line.SplitLine.cell.Reads as cell_reads

pub split_determined : Seen split_kinds.ps split_kinds.r (λ κs x. in_places x) split_reads.Post
split_determined κs a x y s t = same_both

pub cell_determined : Seen cell_kinds.ps cell_kinds.r (λ κs x. x.now) cell_reads.Post
cell_determined κs a x y s t = same_both
