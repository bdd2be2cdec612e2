use mathlib.Core.Path.{◌≡◌, ◌∙◌}
use Rattle.facts.specs.Call.{call}
use Rattle.facts.specs.Words.{moment_in}
use Rattle.facts.specs.Asked.{asked_of}
use Rattle.facts.specs.Facts.{asked_in}
use Rattle.facts.proofs.FromAsked.{trade_day_from}
use Rattle.judge.proofs.flags_of.Goals as goal

pub returns-then-same : goal.returns-then-same
returns-then-same c = λ register stands.
    let a = c.args in
    let l = a.lists.now in
    let k = call a.split.now.line.now l.lei.now l.cty.now l.ccy.now l.ven.now l.ins.now register a.submitted.day a.submitted.micro a.polish in
    let read = c.read_cells-line.ensures.read in
    let same = c.read_cells-line.ensures.same in
    let asked : c.ask-asked.result ≡ asked_in k = c.ask-asked.ensures ∙ (λ j. asked_of k.line (read j) k.lei k.cty k.ccy k.ven k.ins (((λ i. (moment_in (read i).moment).day) ∙ trade_day_from k) j) k.day) in
    (rw same at c.when_new.ensures) l.lei.now l.cty.now l.ccy.now l.ven.now l.ins.now register asked stands
