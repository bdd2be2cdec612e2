-- The flags stand in the order of the codes: the rules' own codes are the verdict's table.
use mathlib.Core.Path.{◌≡◌, refl}
use mathlib.Core.List.{map}
use Rattle.facts.specs.Rules.{Rule, rules, polish_rules}
use Rattle.verdict.specs.Codes.{rule_codes, polish_codes}

pub rules_in_order : map (λ (r : Rule). r.code) rules ≡ rule_codes
unfolding rule_codes
rules_in_order = refl

pub polish_in_order : map (λ (r : Rule). r.code) polish_rules ≡ polish_codes
unfolding polish_codes
polish_in_order = refl
