use borrow.Author.Rules.{rules}
use Rattle.summary.proofs.RaiseLaws.{words_raised}
use Rattle.summary.proofs.raise_codes.Goals as goal

pub returns : goal.returns
returns c = words_raised c.args.words (search rules) c.raise_bits-first.ensures c.raise_bits-second.ensures c.raise_bits-third.ensures
