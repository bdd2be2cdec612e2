use mathlib.Core.Path.{◌∙◌, sym}
use Rattle.register.proofs.RowLaws.{tested_row}
use Rattle.register.proofs.WriteLaws.{value_within, restated_not, restated_stored}
use native.Mathlib.Omega.{arith}
use Rattle.register.proofs.writes.restate.Goals as goal

pub overflow_mul-row : goal.overflow_mul-row
overflow_mul-row c = omega (arith, (tested_row c.requires c.is_used.ensures c.if-is_used.true).within)

pub overflow_add-row : goal.overflow_add-row
overflow_add-row c = omega (arith, (tested_row c.requires c.is_used.ensures c.if-is_used.true).within)

pub overflow_add-row-then-is_used : goal.overflow_add-row-then-is_used
overflow_add-row-then-is_used c = omega (arith, value_within (tested_row c.requires c.is_used.ensures c.if-is_used.true))

pub write_value-requires : goal.write_value-requires
write_value-requires c = let row = tested_row c.requires c.is_used.ensures c.if-is_used.true in (row.known, omega (arith, value_within row))

pub returns-then-is_used : goal.returns-then-is_used
returns-then-is_used c = c.write_value.ensures ∙ restated_stored c.args.register.now c.args.row _ c.args.kept.day c.requires (sym c.is_used.ensures ∙ c.if-is_used.true)

pub returns-else-is_used : goal.returns-else-is_used
returns-else-is_used c = restated_not _ _ _ (sym c.is_used.ensures ∙ c.if-is_used.false)
