use mathlib.Core.Path.{◌≡◌, ◌∙◌, sym}
use Rattle.std.proofs.Common.{Err}
use Rattle.register.specs.Refused.{rows_to_convert}
use Rattle.register.specs.declared.conversion.Refusal.TheVariants.{Source, Target}
use Rattle.register.proofs.ConversionLaws.{conversion_room, conversion_none, conversion_done}
use native.Mathlib.Omega.{arith}
use Rattle.register.proofs.conversion.convert.Goals as goal

pub write_head-requires : goal.write_head-requires
write_head-requires c = omega (arith, (conversion_room c.args.from.now c.args.to.now (sym c.rows_to_convert.ensures ∙ c.in-Ok.is)).1)

pub write_rows-requires : goal.write_rows-requires
write_rows-requires c =
    let room = conversion_room c.args.from.now c.args.to.now (sym c.rows_to_convert.ensures ∙ c.in-Ok.is) in
    (room.0, omega (arith, room.1, c.write_head.auto.to))

pub returns-in-Ok : goal.returns-in-Ok
returns-in-Ok c = conversion_done c.args.from.now c.args.to.now (sym c.rows_to_convert.ensures ∙ c.in-Ok.is) c.write_head.ensures c.write_rows.ensures

pub returns-in-Err : goal.returns-in-Err
returns-in-Err c =
    let refused : rows_to_convert c.args.from.now c.args.to.now ≡ Err Source = cc in
    conversion_none c.args.from.now c.args.to.now refused

pub returns-in-Err-2 : goal.returns-in-Err-2
returns-in-Err-2 c =
    let refused : rows_to_convert c.args.from.now c.args.to.now ≡ Err Target = cc in
    conversion_none c.args.from.now c.args.to.now refused
