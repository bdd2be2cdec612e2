use lib.ListN.{length}
use mathlib.Core.Path.{◌≡◌}
use Rattle.register.proofs.WriteLaws.{open_row, free_row, no_row, value_within, appended_stored}
use borrow.Author.Rules.{rules}
use native.Mathlib.Omega.{arith}
use Rattle.register.proofs.writes.append.Goals as goal

pub returns-then-width-full : goal.returns-then-width-full
returns-then-width-full c = no_row c.args.register.now _ _ c.requires c.full.ensures c.if-width-full.true

pub overflow_mul-at : goal.overflow_mul-at
overflow_mul-at c = omega (arith, (free_row c.requires c.full.ensures c.if-width-full.false c.used-count.ensures).row.within)

pub overflow_add-at : goal.overflow_add-at
overflow_add-at c = omega (arith, (free_row c.requires c.full.ensures c.if-width-full.false c.used-count.ensures).row.within)

pub copy_in-requires : goal.copy_in-requires
copy_in-requires c =
    let l : length c.args.pair.now ≡ 73 = search rules in
    omega (arith, value_within (free_row c.requires c.full.ensures c.if-width-full.false c.used-count.ensures).row)

pub overflow_add-at-2 : goal.overflow_add-at-2
overflow_add-at-2 c = omega (arith, value_within (free_row c.requires c.full.ensures c.if-width-full.false c.used-count.ensures).row)

pub write_value-requires : goal.write_value-requires
write_value-requires c =
    let room = free_row c.requires c.full.ensures c.if-width-full.false c.used-count.ensures in
    (room.row.known, omega (arith, value_within room.row, c.copy_in.auto.bytes))

pub overflow_add-count : goal.overflow_add-count
overflow_add-count c = omega (arith, (free_row c.requires c.full.ensures c.if-width-full.false c.used-count.ensures).number)

pub write_le32-requires : goal.write_le32-requires
write_le32-requires c =
    omega (
      arith,
      value_within (free_row c.requires c.full.ensures c.if-width-full.false c.used-count.ensures).row,
      c.copy_in.auto.bytes,
      c.write_value.auto.register,
    )

pub returns : goal.returns
returns c =
    let l : length c.args.pair.now ≡ 73 = search rules in
    appended_stored
    c.args.register.now
    (open_row c.args.register.now c.requires c.full.ensures c.if-width-full.false)
    c.requires
    c.used-count.ensures
    c.args.pair.now
    _
    c.args.kept.day
    l
    c.copy_in.ensures
    c.write_value.ensures
    c.write_le32.ensures
