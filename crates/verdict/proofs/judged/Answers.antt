use Rattle.verdict.proofs.MadeOf.{verdict_made}
use borrow.Author.Rules.{rules}
use Rattle.verdict.proofs.judged.Goals as goal

pub returns : goal.returns
returns c = verdict_made c.args.found.now (search rules) c.word.ensures c.word-2.ensures c.word-3.ensures c.ones_of.ensures
