use mathlib.Core.Path.{◌∙◌, ap}
use mathlib.Core.List.{◌++◌}
use Rattle.forms.specs.Findings.{form_findings}
use Rattle.forms.proofs.FindingLaws.{new_status}
use Rattle.facts.specs.Call.{call}
use Rattle.facts.specs.Rules.{good_cells, flags, all_flags}
use Rattle.facts.specs.Facts.{facts_from}
use Rattle.facts.specs.declared.lines.Facts.{Facts}
use Rattle.facts.proofs.FromAsked.{facts_from_lem}
use Rattle.verdict.specs.Codes.{base_count}
use Rattle.verdict.specs.Findings.{put}
use Rattle.rules.proofs.ByStatus.{three, polish_asked, polish_unasked, polish_put}
use Rattle.rules.proofs.lines.when_new.Goals as goal

pub new_findings-forms-requires : goal.new_findings-forms-requires
new_findings-forms-requires c = new_status _ c.requires

pub line_facts-f-requires : goal.line_facts-f-requires
line_facts-f-requires c = c.new_findings-forms.ensures

pub returns-then-not-polish : goal.returns-then-not-polish
unfolding all_flags
returns-then-not-polish c = λ lei cty ccy ven ins register asked stands.
    let a = c.args in
    let l = a.line.now.split.now.line.now in
    let k = call l lei cty ccy ven ins register a.submitted.day a.submitted.micro a.polish in
    let facts = c.line_facts-f.ensures ∙ (λ j. facts_from l (a.line.now.told j) (asked j) (stands j) a.submitted.day a.submitted.micro) ∙ facts_from_lem k in
    c.by_facts-found.ensures k c.requires facts c.new_findings-forms.ensures
    ∙ (λ i. flags k ++ (form_findings l ++ polish_unasked k c.requires c.if-not-polish.true i))

-- the good cells of the facts
pub polish_facts-p-requires : goal.polish_facts-p-requires
unfolding facts_from good_cells
polish_facts-p-requires c = ap (λ (f : Facts). f.ok) c.line_facts-f.ensures

pub returns : goal.returns
unfolding all_flags
returns c = λ lei cty ccy ven ins register asked stands.
    let a = c.args in
    let l = a.line.now.split.now.line.now in
    let k = call l lei cty ccy ven ins register a.submitted.day a.submitted.micro a.polish in
    let facts = c.line_facts-f.ensures ∙ (λ j. facts_from l (a.line.now.told j) (asked j) (stands j) a.submitted.day a.submitted.micro) ∙ facts_from_lem k in
    let found = c.by_facts-found.ensures k c.requires facts c.new_findings-forms.ensures in
    let given = ap three c.polish_facts-p.ensures ∙ polish_asked k c.requires c.if-not-polish.false in
    c.place.ensures ∙ (λ i. put (found i) base_count (given i)) ∙ polish_put k
