use mathlib.Core.Path.{◌∙◌, ap}
use Rattle.facts.specs.Rules.{rules1}
use Rattle.facts.specs.Asked.{lei_fit, entity_asked, asked_of}
use Rattle.facts.specs.Facts.{entity_from, party_facts_of, parties_of, trade_of, facts_of}
use Rattle.verdict.specs.Findings.{put}
use Rattle.rules.proofs.ByStatus.{when_new}
use Rattle.rules.proofs.early.pair_and_buyer.Goals as goal

pub returns : goal.returns
unfolding facts_of asked_of entity_asked lei_fit entity_from parties_of party_facts_of trade_of
returns c = λ k n e. c.place.ensures ∙ ap (put c.args.base 0) (rw e (when_new k n rules1))
