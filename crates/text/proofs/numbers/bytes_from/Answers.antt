use Rattle.std.proofs.Common.{rules, get_or, drop}
use Rattle.text.proofs.ByteLaws.{made_by}
use Rattle.text.proofs.numbers.bytes_from.Goals as goal

pub returns : goal.returns
returns g c = made_by _ (λ i. get_or (drop c.args.at c.args.s.now) i 0) (λ i y q k. search rules) c.from_fn.ensures.items
