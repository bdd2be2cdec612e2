use Rattle.ident.specs.Carried.{with_digit}
use borrow.Author.Rules.{rules}
use Rattle.ident.proofs.isins.with_digit.Goals as goal

pub returns : goal.returns
unfolding with_digit
returns c = search rules
