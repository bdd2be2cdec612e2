use Rattle.std.proofs.Common.{rules, tests, ◌==◌, ◌∙◌}
use Rattle.std.proofs.lemmas.Iterator.{YieldsList-from_slice}
use Rattle.std.proofs.lemmas.Iterator.Search.{position_from_yields_List}
use Rattle.checker.proofs.LineEndLaws.{end_found}
use Rattle.checker.proofs.lines.line_end.Goals as goal

pub returns : goal.returns
returns c =
    let e = position_from_yields_List (λ b. b == 10) _ _ c.position.result c.position.ensures.ran (YieldsList-from_slice c.args.s.now cc) (λ x b q k. search (rules, tests)) in
    (rw e at c.unwrap_or.ensures) ∙ end_found c.args.s.now
