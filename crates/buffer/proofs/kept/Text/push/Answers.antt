use Rattle.std.proofs.Common.{rules}
use Rattle.buffer.proofs.TextLaws.{kept_added}
use Rattle.buffer.proofs.kept.Text.push.Goals as goal

pub returns : goal.returns
returns g c = kept_added g.row.N c.keep-self-inside.ensures c.self.view_is (search rules) c.self.invariant
