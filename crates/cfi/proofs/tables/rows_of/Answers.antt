use Rattle.std.proofs.Common.{arith, refl, sym}
use Rattle.cfi.specs.Rules.{rules, words}
use Rattle.cfi.specs.Table.{beginning, group}
use Rattle.cfi.proofs.GroupLaws.{firsts, none_of, no_group, rules_begun}
use Rattle.cfi.proofs.Spelling.{spelled_as}
use Rattle.cfi.proofs.tables.rows_of.Goals as goal

-- the computed tests: a letter's table has the rules of its group
pub returns-in-67 : goal.returns-in-67
unfolding rules words beginning group
returns-in-67 c = spelled_as 67 (omega arith) (record { rules_are = refl })

pub returns-in-68 : goal.returns-in-68
unfolding rules words beginning group
returns-in-68 c = spelled_as 68 (omega arith) (record { rules_are = refl })

pub returns-in-69 : goal.returns-in-69
unfolding rules words beginning group
returns-in-69 c = spelled_as 69 (omega arith) (record { rules_are = refl })

pub returns-in-70 : goal.returns-in-70
unfolding rules words beginning group
returns-in-70 c = spelled_as 70 (omega arith) (record { rules_are = refl })

pub returns-in-72 : goal.returns-in-72
unfolding rules words beginning group
returns-in-72 c = spelled_as 72 (omega arith) (record { rules_are = refl })

pub returns-in-73 : goal.returns-in-73
unfolding rules words beginning group
returns-in-73 c = spelled_as 73 (omega arith) (record { rules_are = refl })

pub returns-in-74 : goal.returns-in-74
unfolding rules words beginning group
returns-in-74 c = spelled_as 74 (omega arith) (record { rules_are = refl })

pub returns-in-76 : goal.returns-in-76
unfolding rules words beginning group
returns-in-76 c = spelled_as 76 (omega arith) (record { rules_are = refl })

pub returns-in-79 : goal.returns-in-79
unfolding rules words beginning group
returns-in-79 c = spelled_as 79 (omega arith) (record { rules_are = refl })

pub returns-in-82 : goal.returns-in-82
unfolding rules words beginning group
returns-in-82 c = spelled_as 82 (omega arith) (record { rules_are = refl })

pub returns-in-83 : goal.returns-in-83
unfolding rules words beginning group
returns-in-83 c = spelled_as 83 (omega arith) (record { rules_are = refl })

pub returns-in_default : goal.returns-in_default
returns-in_default c = record { rules_are = sym (no_group c.args.letter (none_of c.args.letter firsts (omega arith, (omega arith, (omega arith, (omega arith, (omega arith, (omega arith, (omega arith, (omega arith, (omega arith, (omega arith, (omega arith, tt)))))))))))) rules rules_begun) }
