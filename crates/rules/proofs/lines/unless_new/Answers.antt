use mathlib.Core.Path.{◌≡◌, ◌∙◌, ap}
use mathlib.Core.Bool.{Bool, false, not, ◌&&◌}
use mathlib.Core.List.{List, ◌∷◌, ◌++◌, map}
use lib.ListN.{take, set, get_or, replicate}
use Rattle.text.specs.Ascii.{ascii}
use Rattle.text.specs.Word.{same}
use Rattle.forms.specs.Findings.{form_findings}
use Rattle.forms.proofs.FindingLaws.{findings_count}
use Rattle.facts.specs.Call.{call}
use Rattle.facts.specs.declared.answers.LeiFit.{LeiFit}
use Rattle.facts.specs.Words.{is_absent, is_cancelled}
use Rattle.facts.specs.Asked.{lei_fit}
use Rattle.facts.specs.Rules.{is_cxl, good_cells, flags, all_flags}
use Rattle.verdict.specs.Codes.{rule_count, code_count}
use Rattle.verdict.specs.Findings.{put}
use Rattle.verdict.proofs.PlaceLaws.{put_amid}
use Rattle.rules.proofs.ByStatus.{not_new, not_polish}
use native.Mathlib.Omega.{arith}
use Rattle.rules.proofs.lines.unless_new.Goals as goal

-- the flags of the three rules, over what the line, the list and the standing say
abbrev three : Bool → List Bool → Bool → Bool → Bool → List Bool
three cxl ok absent cancelled any =
    set (set (set (replicate code_count false)
    1 (cxl && get_or ok 4 false && get_or ok 2 false && absent))
    2 (cxl && get_or ok 4 false && get_or ok 2 false && cancelled))
    6 (cxl && get_or ok 6 false && not any)

pub returns : goal.returns
unfolding good_cells lei_fit all_flags
returns c = λ lei cty ccy ven ins register day micro polish fit stands.
    let l = c.args.split.now.line.now in
    let k = call l lei cty ccy ven ins register day micro polish in
    let new = c.requires in
    let cxl : c.same-cxl.result ≡ is_cxl l = c.same-cxl.ensures ∙ ap (same (ascii "CXL")) c.cell.ensures in
    let ok : c.good_cells-ok.result ≡ good_cells l = c.good_cells-ok.ensures ∙ ap (λ (found : List Bool). false ∷ map not found) c.other_findings-forms.ensures in
    let absent = c.is_absent.ensures ∙ ap is_absent stands in
    let cancelled = c.is_cancelled.ensures ∙ ap is_cancelled stands in
    let any = ap (λ (f : LeiFit). f.any) fit in
    let found = three c.same-cxl.result c.good_cells-ok.result c.is_absent.result c.is_cancelled.result c.args.submitting.any in
    let rules : take rule_count found ≡ flags k = (λ i. take rule_count (three (cxl i) (ok i) (absent i) (cancelled i) (any i))) ∙ not_new k new in
    c.place.ensures
    ∙ ap (put found rule_count) c.other_findings-forms.ensures
    ∙ put_amid found rule_count (form_findings l) (findings_count l) (omega arith)
    ∙ (λ i. rules i ++ (form_findings l ++ not_polish k new i))
