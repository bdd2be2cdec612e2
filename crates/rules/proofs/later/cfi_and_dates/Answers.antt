use mathlib.Core.Path.{◌∙◌, ap}
use Rattle.cfi.specs.Rules.{cfi_findings}
use Rattle.facts.specs.Rules.{rules6}
use Rattle.facts.specs.Words.{currency_wrong}
use Rattle.facts.specs.Asked.{money_asked, asked_of}
use Rattle.facts.specs.Facts.{currency_from, money_from, deal_of, time_of, facts_of}
use Rattle.verdict.specs.Findings.{put}
use Rattle.rules.proofs.ByStatus.{when_new}
use Rattle.rules.proofs.later.cfi_and_dates.Goals as goal

pub returns : goal.returns
unfolding facts_of asked_of money_asked money_from currency_from currency_wrong time_of deal_of cfi_findings
returns c = λ k n e. c.place.ensures ∙ ap (put c.args.base 61) (rw e (when_new k n rules6))
