use mathlib.Core.Path.{◌∙◌, refl, ap}
use mathlib.Core.List.{map}
use Rattle.forms.specs.Findings.{form_findings}
use Rattle.forms.proofs.FindingLaws.{findings_count}
use Rattle.facts.specs.Rules.{given, rules1, rules2, rules3, rules4, rules5, rules6, flags}
use Rattle.verdict.specs.Codes.{rule_count}
use Rattle.verdict.specs.Findings.{put}
use Rattle.verdict.proofs.PlaceLaws.{filled_none, filled_more, filled_all}
use native.Mathlib.Omega.{arith}
use Rattle.rules.proofs.lines.by_facts.Goals as goal

pub returns : goal.returns
unfolding flags
returns c = λ k new e forms.
    let s1 = filled_more filled_none (map (given k) rules1) 12 refl (omega arith) (c.pair_and_buyer-found.ensures k new e) in
    let s2 = filled_more s1 (map (given k) rules2) 12 refl (omega arith) (c.deciders_and_seller-found.ensures k new e) in
    let s3 = filled_more s2 (map (given k) rules3) 12 refl (omega arith) (c.seller_and_time-found.ensures k new e) in
    let s4 = filled_more s3 (map (given k) rules4) 12 refl (omega arith) (c.price_and_venue-found.ensures k new e) in
    let s5 = filled_more s4 (map (given k) rules5) 13 refl (omega arith) (c.currencies_and_cfi-found.ensures k new e) in
    let s6 = filled_more s5 (map (given k) rules6) 12 refl (omega arith) (c.cfi_and_dates-found.ensures k new e) in
    filled_all (filled_more s6 (form_findings k.line) 65 (findings_count k.line) (omega arith) (c.place.ensures ∙ ap (put c.cfi_and_dates-found.result rule_count) forms))
