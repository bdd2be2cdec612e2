use mathlib.Core.Path.{◌∙◌, ap}
use Rattle.cfi.specs.Rules.{cfi_findings}
use Rattle.facts.specs.Rules.{rules4}
use Rattle.facts.specs.Words.{country_wrong, currency_wrong, quantity_currency_wrong}
use Rattle.facts.specs.Asked.{money_asked, asked_of}
use Rattle.facts.specs.Facts.{currency_from, quantity_currency_from, money_from, deal_of, party_facts_of, parties_of, trade_of, facts_of}
use Rattle.verdict.specs.Findings.{put}
use Rattle.rules.proofs.ByStatus.{when_new}
use Rattle.rules.proofs.later.price_and_venue.Goals as goal

pub returns : goal.returns
unfolding facts_of asked_of parties_of party_facts_of deal_of money_asked money_from quantity_currency_from currency_from currency_wrong quantity_currency_wrong country_wrong trade_of cfi_findings
returns c = λ k n e. c.place.ensures ∙ ap (put c.args.base 36) (rw e (when_new k n rules4))
