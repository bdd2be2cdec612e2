use Rattle.std.proofs.Common.{◌∙◌}
use Rattle.amount.proofs.SignLaws.{no_amount, minus_room, below_zero, not_below}
use Rattle.amount.proofs.parse_signed.Goals as goal

pub returns-in_err-d : goal.returns-in_err-d
returns-in_err-d c = c.from_residual.ensures ∙ no_amount c.args.f c.args.s.now c.behind_sign.ensures c.value_in.ensures c.in_err-d.was

pub overflow_sub-result : goal.overflow_sub-result
overflow_sub-result c = minus_room c.args.f c.args.s.now c.behind_sign.ensures c.value_in.ensures c.in_ok-d.was

pub returns-then-starts_with : goal.returns-then-starts_with
returns-then-starts_with c = below_zero c.args.f c.args.s.now c.behind_sign.ensures c.value_in.ensures c.in_ok-d.was c.starts_with.ensures c.if-starts_with.true

pub returns : goal.returns
returns c = not_below c.args.f c.args.s.now c.behind_sign.ensures c.value_in.ensures c.in_ok-d.was c.starts_with.ensures c.if-starts_with.false
