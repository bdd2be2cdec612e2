use Rattle.register.proofs.WidthLaws.{read_no_mark, read_no_version, read_too_many, read_width}
use native.Mathlib.Omega.{arith}
use Rattle.register.proofs.frame.row_width.Goals as goal

pub returns-then-not-register-starts_with : goal.returns-then-not-register-starts_with
returns-then-not-register-starts_with c = read_no_mark c.args.register.now c.starts_with.ensures c.if-not-register-starts_with.true

pub returns-in-Some : goal.returns-in-Some
returns-in-Some c = read_width c.args.register.now c.starts_with.ensures c.if-not-register-starts_with.false c.le16.ensures c.in-Some.ensures c.used.ensures (omega arith) (omega arith)

pub returns-in_default : goal.returns-in_default
returns-in_default c = read_too_many c.args.register.now c.starts_with.ensures c.if-not-register-starts_with.false c.le16.ensures c.in-Some.ensures c.used.ensures (omega arith)

pub returns-in_default-2 : goal.returns-in_default-2
returns-in_default-2 c = read_no_version c.args.register.now c.starts_with.ensures c.if-not-register-starts_with.false c.le16.ensures c.in_default.ensures
