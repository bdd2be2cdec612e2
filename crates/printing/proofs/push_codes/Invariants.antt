use Rattle.std.proofs.Common.{◌≡◌, take}
use Rattle.buffer.specs.Text.{added}
use Rattle.printing.specs.Printed.{spaced}
use Rattle.printing.proofs.push_codes.Given as goal

abbrev pub invariant-loop-code : goal.invariant-loop-code
invariant-loop-code g l = l.out ≡ added g.row.N l.initial.out (spaced (take l.code-index l.codes))
