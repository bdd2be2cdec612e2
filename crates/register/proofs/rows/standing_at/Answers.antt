use mathlib.Core.Path.{◌∙◌}
use Rattle.register.specs.Rows.{standing_at}
use Rattle.register.proofs.RowLaws.{tested_row, stands_unused, stands_used}
use native.Mathlib.Omega.{arith}
use Rattle.register.proofs.rows.standing_at.Goals as goal

pub overflow_mul-row : goal.overflow_mul-row
overflow_mul-row c = omega (arith, (tested_row c.requires c.is_used.ensures c.if-is_used.true).within)

pub overflow_add-row : goal.overflow_add-row
overflow_add-row c = omega (arith, (tested_row c.requires c.is_used.ensures c.if-is_used.true).within)

pub overflow_add-row-in-Some : goal.overflow_add-row-in-Some
overflow_add-row-in-Some c = omega (arith, (tested_row c.requires c.is_used.ensures c.if-is_used.true).within)

pub returns-in-Some : goal.returns-in-Some
returns-in-Some c = rw c.in-Some.is (c.state_of.ensures ∙ stands_used _ _ c.is_used.ensures c.requires c.if-is_used.true c.byte_at.ensures)

pub returns-in_default : goal.returns-in_default
returns-in_default c = rw c.in-Some.is (stands_unused _ _ c.is_used.ensures c.if-is_used.false)

pub returns-in_default-2 : goal.returns-in_default-2
unfolding standing_at
returns-in_default-2 c = rw c.in_default.is
