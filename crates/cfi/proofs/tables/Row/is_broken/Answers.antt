use Rattle.cfi.proofs.WalkLaws.{row_wrong, row_right}
use Rattle.cfi.proofs.tables.Row.is_broken.Goals as goal

pub returns-then-is_found : goal.returns-then-is_found
returns-then-is_found c = row_wrong c.args.kinds.now c.args.cfi.now c.args.self.now c.byte_at.ensures c.is_found.ensures c.if-is_found.true c.matches_one.ensures

pub returns-else-is_found : goal.returns-else-is_found
returns-else-is_found c = row_right c.args.kinds.now c.args.cfi.now c.args.self.now c.byte_at.ensures c.is_found.ensures c.if-is_found.false
