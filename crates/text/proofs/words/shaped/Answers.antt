use Rattle.std.proofs.Common.{ℕ, ◌∙◌, rules}
use borrow.Author.Tests.{tests}
use Rattle.std.proofs.lemmas.Iterator.{YieldsList-from_slice, YieldsList-from_zip}
use Rattle.std.proofs.lemmas.Iterator.Search.{all_from_yields_List}
use Rattle.text.specs.Shape.{suits}
use Rattle.text.proofs.WordLaws.{shape_each}
use Rattle.text.proofs.words.shaped.Goals as goal

pub returns : goal.returns
returns c =
    all_from_yields_List (λ (p : ℕ × ℕ). suits p.1 p.0) c.all.new.self _ _ c.all.ensures.ran
    (YieldsList-from_zip {s = c.zip.result} (YieldsList-from_slice c.args.s.now cc) (YieldsList-from_slice c.args.pattern.now cc))
    (λ x b q k. search (rules, tests))
    ∙ shape_each c.args.s.now c.args.pattern.now c.if-s-pattern.false
