use Rattle.std.proofs.Common.{◌≡◌, ◌+◌, ◌-◌, ◌∙◌, drop, length-drop, arith}
use Rattle.text.proofs.ByteLaws.{first_all}
use Rattle.text.proofs.loads.bytes_at.Goals as goal

pub returns : goal.returns
returns g c =
    let n : c.args.at + g.row.N - c.args.at ≡ g.row.N = omega arith in
    c.copy_from_slice.ensures.after ∙ rw n (first_all (drop c.args.at c.args.s.now) g.row.N (simp length-drop (omega arith)))
