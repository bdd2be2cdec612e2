use mathlib.Core.Path.{◌∙◌, sym}
use mathlib.Core.Bool.{not, ◌&&◌, ◌||◌}
use Rattle.ident.proofs.PartyLaws.{party_wrong, party_unshaped, party_right}
use Rattle.ident.proofs.parties.parse_party.Goals as goal

pub returns-then-not-allows-part_right : goal.returns-then-not-allows-part_right
returns-then-not-allows-part_right c = party_wrong c.args.allowed c.args.s.now c.named-identifier.ensures c.part_of-part.ensures (sym (λ i. c.allows.ensures i && c.part_right.ensures i) ∙ c.if-not-allows-part_right.true)

pub returns-then-not-allowed-is_person : goal.returns-then-not-allowed-is_person
returns-then-not-allowed-is_person c = party_unshaped c.args.allowed c.args.s.now c.named-identifier.ensures c.part_of-part.ensures (sym (λ i. c.allows.ensures i && c.part_right.ensures i) ∙ c.if-not-allows-part_right.false) c.person_shaped-shaped.ensures
    ((λ i. not c.args.allowed.shaped || not (sym c.is_person.ensures i) || c.person_shaped-shaped.result) ∙ c.if-not-allowed-is_person.true)

pub returns : goal.returns
returns c = party_right c.args.allowed c.args.s.now c.named-identifier.ensures c.part_of-part.ensures (sym (λ i. c.allows.ensures i && c.part_right.ensures i) ∙ c.if-not-allows-part_right.false) c.person_shaped-shaped.ensures
    ((λ i. not c.args.allowed.shaped || not (sym c.is_person.ensures i) || c.person_shaped-shaped.result) ∙ c.if-not-allowed-is_person.false)
