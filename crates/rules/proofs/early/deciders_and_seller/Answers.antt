use mathlib.Core.Path.{◌∙◌, ap}
use Rattle.facts.specs.Rules.{rules2}
use Rattle.facts.specs.Words.{country_wrong}
use Rattle.facts.specs.Asked.{asked_of}
use Rattle.facts.specs.Facts.{party_facts_of, parties_of, facts_of}
use Rattle.verdict.specs.Findings.{put}
use Rattle.rules.proofs.ByStatus.{when_new}
use Rattle.rules.proofs.early.deciders_and_seller.Goals as goal

pub returns : goal.returns
unfolding facts_of asked_of country_wrong parties_of party_facts_of
returns c = λ k n e. c.place.ensures ∙ ap (put c.args.base 12) (rw e (when_new k n rules2))
