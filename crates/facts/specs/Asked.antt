-- What the five lists say of a line, on T and on the submission day.
use Rattle.std.specs.Prelude.{ℕ, ◌&&◌, ◌||◌, List}
use Rattle.cells.specs.Cells.{cell}
use Rattle.ident.specs.Person.{country_of}
use Rattle.ident.specs.Party.{part_of, is_lei, is_mic, is_person}
use Rattle.ident.specs.declared.parties.Party.{Party}
use Rattle.forms.specs.declared.read.Read.{Read}
use Rattle.lists.specs.Lookups.{country_known, currency_rows, venue_rows, instrument_rows}
use Rattle.facts.specs.declared.answers.LeiFit.{LeiFit}
use Rattle.facts.specs.declared.answers.PartyAsked.{PartyAsked}
use Rattle.facts.specs.declared.answers.PartiesAsked.{PartiesAsked}
use Rattle.facts.specs.declared.answers.EntityAsked.{EntityAsked}
use Rattle.facts.specs.declared.answers.MoneyAsked.{MoneyAsked}
use Rattle.facts.specs.declared.answers.Asked.{Asked}
use Rattle.facts.specs.Words.{lei_good_unlapsed, lei_good, party_lei_good, kind1, kind3, second_currency}

unfoldable pub lei_fit : List ℕ → List ℕ → ℕ → LeiFit
lei_fit lei s day = record { unlapsed = lei_good_unlapsed lei s day; any = lei_good lei s day }

-- a list is read only for the kind of party that it is of
unfoldable pub party_asked : Party → List ℕ → List ℕ → List ℕ → List ℕ → ℕ → PartyAsked
party_asked party s lei cty ven day =
    record {
      lei = is_lei party.identifier && party_lei_good lei (part_of party.identifier s) day;
      country = is_person party.identifier && country_known cty (country_of (part_of party.identifier s)) day;
      mic = is_mic party.identifier && (kind1 ven (part_of party.identifier s) day || kind3 ven (part_of party.identifier s) day);
    }

unfoldable pub parties_asked : List ℕ → Read → List ℕ → List ℕ → List ℕ → ℕ → PartiesAsked
parties_asked line read lei cty ven t =
    record {
      buyer = party_asked read.buyer (cell line 7) lei cty ven t;
      buyer_for = party_asked read.buyer_for (cell line 12) lei cty ven t;
      seller = party_asked read.seller (cell line 16) lei cty ven t;
      seller_for = party_asked read.seller_for (cell line 21) lei cty ven t;
    }

unfoldable pub entity_asked : List ℕ → List ℕ → ℕ → ℕ → EntityAsked
entity_asked line lei t day =
    record {
      executing = lei_fit lei (cell line 4) t;
      submitting = lei_fit lei (cell line 6) day;
      buyers_firm = lei_fit lei (cell line 26) t;
      sellers_firm = lei_fit lei (cell line 27) t;
    }

unfoldable pub money_asked : List ℕ → List ℕ → ℕ → MoneyAsked
money_asked line ccy t =
    record {
      quantity = currency_rows ccy (cell line 31) t;
      price = currency_rows ccy (cell line 34) t;
      notional = currency_rows ccy (cell line 44) t;
      second = currency_rows ccy (second_currency (cell line 45)) t;
      strike = currency_rows ccy (cell line 52) t;
    }

unfoldable pub asked_of : List ℕ → Read → List ℕ → List ℕ → List ℕ → List ℕ → List ℕ → ℕ → ℕ → Asked
asked_of line read lei cty ccy ven ins t day =
    record {
      entity = entity_asked line lei t day;
      parties = parties_asked line read lei cty ven t;
      country8 = country_known cty (cell line 8) t;
      country17 = country_known cty (cell line 17) t;
      country37 = country_known cty (cell line 37) t;
      money = money_asked line ccy t;
      venue = venue_rows ven (cell line 36) t;
      instrument = instrument_rows ins (cell line 41) t;
    }
