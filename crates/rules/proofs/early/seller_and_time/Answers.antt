use mathlib.Core.Path.{◌∙◌, ap}
use Rattle.facts.specs.Rules.{rules3}
use Rattle.facts.specs.Words.{lei_wrong, country_wrong}
use Rattle.facts.specs.Asked.{lei_fit, entity_asked, asked_of}
use Rattle.facts.specs.Facts.{entity_from, deal_of, party_facts_of, parties_of, time_of, facts_of}
use Rattle.verdict.specs.Findings.{put}
use Rattle.rules.proofs.ByStatus.{when_new}
use Rattle.rules.proofs.early.seller_and_time.Goals as goal

pub returns : goal.returns
unfolding facts_of asked_of entity_asked lei_fit entity_from lei_wrong country_wrong parties_of party_facts_of time_of deal_of
returns c = λ k n e. c.place.ensures ∙ ap (put c.args.base 24) (rw e (when_new k n rules3))
