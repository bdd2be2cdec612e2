use Rattle.std.proofs.Common.{rules}
use Rattle.buffer.proofs.TextLaws.{kept_added}
use Rattle.buffer.proofs.kept.Text.push_all.Goals as goal

pub returns-clause-keeps : goal.returns-clause-keeps
returns-clause-keeps g c = kept_added g.row.N c.keep_all-self-inside.ensures c.self.view_is (search rules) c.self.invariant
