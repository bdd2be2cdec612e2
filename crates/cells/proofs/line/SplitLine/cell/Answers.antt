use Rattle.cells.proofs.Tables.{tabled_at, no_such_cell, no_cell_zero}
use native.Mathlib.Omega.{arith}
use Rattle.cells.proofs.line.SplitLine.cell.Goals as goal
use Rattle.cells.proofs.line.SplitLine.cell.Goals.{in_default-via-then-f-lt1, in_default-via-else-f-lt1+else-f-lt66}

pub slice_bounds-result-count : goal.slice_bounds-result-count
slice_bounds-result-count c = (tabled_at c.args.self.now.tabled c.args.f (omega arith) (omega arith)).ordered

pub slice_bounds-result-start : goal.slice_bounds-result-start
slice_bounds-result-start c = (tabled_at c.args.self.now.tabled c.args.f (omega arith) (omega arith)).ordered

pub slice_bounds-result-end : goal.slice_bounds-result-end
slice_bounds-result-end c = (tabled_at c.args.self.now.tabled c.args.f (omega arith) (omega arith)).within

pub returns-in-1-to-65 : goal.returns-in-1-to-65
returns-in-1-to-65 c = (tabled_at c.args.self.now.tabled c.args.f (omega arith) (omega arith)).part_is

pub returns-in_default : goal.returns-in_default
returns-in_default c =
    elim c.in_default.branch [
      | in_default-via-then-f-lt1 w ↦ no_cell_zero c.args.self.now.line.now c.args.f (omega arith)
      | in_default-via-else-f-lt1+else-f-lt66 w ↦ no_such_cell c.args.self.now.tabled c.args.f (omega arith)
    ]
