use native.Mathlib.Omega.{arith}
use Rattle.calendar.proofs.MomentLaws.{ending_z, ending_none, ending_digits}
use Rattle.calendar.proofs.moments.is_ending.Goals as goal

pub returns-in-empty : goal.returns-in-empty
returns-in-empty c = ending_none c.args.t.now c.in-empty.len_below

pub returns-in-len1 : goal.returns-in-len1
returns-in-len1 c = ending_z c.args.t.now (omega arith)

pub returns-in-len2-up : goal.returns-in-len2-up
returns-in-len2-up c = ending_digits c.args.t.now c.in-len2-up.len_at_least c.run_of.ensures
