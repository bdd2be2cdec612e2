use borrow.Author.Rules.{rules}
use Rattle.summary.proofs.NameLaws.{named}
use Rattle.summary.proofs.names_code.Goals as goal

pub returns : goal.returns
returns c = named c.args.words c.args.j (search rules) c.requires
