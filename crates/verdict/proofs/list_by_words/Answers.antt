use Rattle.verdict.proofs.WordLaws.{listed_not, second_room, third_room, three_listed}
use Rattle.verdict.specs.Codes.{codes, rule_codes, form_codes, polish_codes}
use borrow.Author.Rules.{rules}
use native.Mathlib.Omega.{arith}
use Rattle.verdict.proofs.list_by_words.Goals as goal

pub returns-then-findings-ones_of : goal.returns-then-findings-ones_of
returns-then-findings-ones_of c = listed_not c.args.words c.args.findings.now c.ones_of.ensures c.if-findings-ones_of.true

pub list_bits-second-requires : goal.list_bits-second-requires
unfolding codes rule_codes form_codes polish_codes
list_bits-second-requires c = (omega arith, second_room c.args.words (search rules) c.ones_of.ensures c.if-findings-ones_of.false c.list_bits-first.ensures)

pub list_bits-requires : goal.list_bits-requires
unfolding codes rule_codes form_codes polish_codes
list_bits-requires c = (omega arith, third_room c.args.words (search rules) c.ones_of.ensures c.if-findings-ones_of.false c.list_bits-first.ensures c.list_bits-second.ensures)

pub returns : goal.returns
unfolding codes rule_codes form_codes polish_codes
returns c = three_listed c.args.words (search rules) c.ones_of.ensures c.if-findings-ones_of.false c.list_bits-first.ensures c.list_bits-second.ensures c.list_bits.ensures
