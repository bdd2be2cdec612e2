use Rattle.replay.proofs.ResultLaws.{resulted}
use borrow.Author.Rules.{rules}
use Rattle.replay.proofs.result.Goals as goal

pub returns : goal.returns
returns c = resulted _ (search rules) (search rules) c.judge-verdict.ensures c.keep_result.ensures
