-- The facts that the engine works out, each the condition of a rule or a part of one. Nobody needs this file to read the rules.
use Rattle.std.specs.Prelude.{ℕ, Bool, Option, false, cond, not, ◌&&◌, ◌||◌, List, eqb, ltb, get_or}
use Rattle.text.specs.Word.{blank, same}
use Rattle.cells.specs.Cells.{cell}
use Rattle.calendar.specs.declared.moments.Moment.{Moment}
use Rattle.baskets.specs.declared.underlying.Underlying.{Underlying}
use Rattle.polish.specs.Cells.{form_wrong, check_wrong, born_wrong}
use Rattle.polish.specs.declared.cells.Polish.{Polish}
use Rattle.amount.specs.Price.{price_kind}
use Rattle.amount.specs.Quantity.{quantity_kind}
use Rattle.amount.specs.declared.Price.{Price}
use Rattle.amount.specs.declared.Quantity.{Quantity}
use Rattle.forms.specs.Read.{read_of}
use Rattle.forms.specs.declared.read.Read.{Read}
use Rattle.ident.specs.Person.{country_of, concat_day}
use Rattle.ident.specs.Party.{allowed7, allowed12, part_of, is_lei, is_mic, is_concat, is_person}
use Rattle.ident.specs.declared.parties.Party.{Party}
use Rattle.ident.specs.declared.parties.Allowed.{Allowed}
use Rattle.lists.specs.Lookups.{venue_rows, instrument_rows, some_violates}
use Rattle.lists.specs.declared.lookups.CurrencyRows.{CurrencyRows}
use Rattle.lists.specs.declared.lookups.VenueRows.{VenueRows}
use Rattle.lists.specs.declared.lookups.InstrumentRows.{InstrumentRows}
use Rattle.register.specs.declared.rows.Standing.{Standing}
use Rattle.cfi.specs.Rules.{cfi_findings}
use Rattle.facts.specs.declared.answers.PartyAsked.{PartyAsked}
use Rattle.facts.specs.declared.answers.PartiesAsked.{PartiesAsked}
use Rattle.facts.specs.declared.answers.EntityAsked.{EntityAsked}
use Rattle.facts.specs.declared.answers.MoneyAsked.{MoneyAsked}
use Rattle.facts.specs.declared.answers.Asked.{Asked}
use Rattle.facts.specs.declared.entities.EntityFacts.{EntityFacts}
use Rattle.facts.specs.declared.parties.PartyFacts.{PartyFacts}
use Rattle.facts.specs.declared.parties.PartiesFacts.{PartiesFacts}
use Rattle.facts.specs.declared.times.TimeFacts.{TimeFacts}
use Rattle.facts.specs.declared.money.MoneyFacts.{MoneyFacts}
use Rattle.facts.specs.declared.trades.TradeFacts.{TradeFacts}
use Rattle.facts.specs.declared.lines.DealFacts.{DealFacts}
use Rattle.facts.specs.declared.lines.Facts.{Facts}
use Rattle.facts.specs.Call.{Call}
use Rattle.facts.specs.Words.{present, says, off, moment_in, moment_of, day_in, is_live, no_money, party_lei_wrong, party_country_wrong, party_mic_wrong, party_shape_wrong, birth_wrong, is_late, is_past, is_entity, second_currency, isin_wrong, not_before, too_old}
use Rattle.facts.specs.Asked.{asked_of}
use Rattle.facts.specs.Rules.{good_cells, at, T, standing_of, holdings, some_party, some_trader, some_cell, some_dated}

-- Over what was read of the line and what was asked of the lists

unfoldable pub entity_from : List ℕ → EntityAsked → EntityFacts
entity_from line asked =
    record {
      member = says "TRUE" (cell line 5) && not asked.executing.unlapsed;
      other = says "FALSE" (cell line 5) && not asked.executing.any;
      submitter = not asked.submitting.any;
      buyers_firm = present (cell line 26) && not asked.buyers_firm.any;
      sellers_firm = present (cell line 27) && not asked.sellers_firm.any;
    }

-- `dated`: the party's date is present
unfoldable pub party_from : Party → List ℕ → Bool → Option ℕ → List ℕ → PartyAsked → ℕ → PartyFacts
party_from party s dated date entity asked t =
    record {
      lei = is_lei party.identifier && not asked.lei;
      country = is_person party.identifier && (present (country_of (part_of party.identifier s)) && not asked.country);
      mic = is_mic party.identifier && (off (part_of party.identifier s) || not asked.mic);
      birth = is_concat party.identifier && party.shaped && (dated && not (eqb (concat_day (part_of party.identifier s)) (day_in date)));
      shape = is_person party.identifier && not party.shaped;
      late = dated && ltb t (day_in date);
      entity = is_lei party.identifier && same entity (part_of party.identifier s);
    }

unfoldable pub parties_from : List ℕ → Read → PartiesAsked → ℕ → PartiesFacts
parties_from line read asked t =
    record {
      buyer = party_from read.buyer (cell line 7) (present (cell line 11)) read.date11 (cell line 4) asked.buyer t;
      buyer_for = party_from read.buyer_for (cell line 12) (present (cell line 15)) read.date15 (cell line 4) asked.buyer_for t;
      seller = party_from read.seller (cell line 16) (present (cell line 20)) read.date20 (cell line 4) asked.seller t;
      seller_for = party_from read.seller_for (cell line 21) (present (cell line 24)) read.date24 (cell line 4) asked.seller_for t;
    }

unfoldable pub time_from : List ℕ → Read → ℕ → ℕ → TimeFacts
time_from line read day micro =
    record {
      not_before = not_before (moment_in read.moment) day micro;
      too_old = too_old (moment_in read.moment).day day;
      past54 = present (cell line 54) && ltb (day_in read.date54) (moment_in read.moment).day;
      past55 = present (cell line 55) && ltb (day_in read.date55) (moment_in read.moment).day;
    }

abbrev pub country_from : List ℕ → Bool → Bool
country_from s known = present s && not known

unfoldable pub currency_from : List ℕ → CurrencyRows → Bool
currency_from s rows = present s && (no_money s || not rows.current)

unfoldable pub quantity_currency_from : List ℕ → CurrencyRows → Bool
quantity_currency_from s rows = present s && (no_money s || not (rows.current || rows.pre_euro))

unfoldable pub money_from : List ℕ → MoneyAsked → MoneyFacts
money_from line asked =
    record {
      quantity = quantity_currency_from (cell line 31) asked.quantity;
      price = currency_from (cell line 34) asked.price;
      notional = currency_from (cell line 44) asked.notional;
      second = currency_from (second_currency (cell line 45)) asked.second;
      strike = currency_from (cell line 52) asked.strike;
    }

-- what 30 and 33 hold
unfoldable pub quantity_held : List ℕ → Quantity → ℕ
quantity_held s quantity = cond (blank s) 1 (quantity_kind quantity)

unfoldable pub price_held : List ℕ → Price → ℕ
price_held s price = cond (blank s) 1 (price_kind price)

-- with the answers to 331, 351 and 470
abbrev pub trade_with : List ℕ → VenueRows → InstrumentRows → (debt bond wrong : Bool) → TradeFacts
trade_with line venue rows debt bond wrong =
    record {
      no_code = present (cell line 3) && (off (cell line 36) || venue.kind2 || venue.kind3);
      unknown = not (off (cell line 36)) && not (venue.kind1 || venue.kind2 || venue.kind3);
      listed_off = says "XXXX" (cell line 36) && rows.listed;
      transmitted = says "TRUE" (cell line 25) && not (off (cell line 36));
      no_branch = (venue.kind1 || venue.kind3) && blank (cell line 37);
      branch = present (cell line 37) && (off (cell line 36) || venue.kind2);
      debt_in_units = debt;
      bond_without_net = bond;
      wrong_isin = wrong;
    }

-- `kinds` is what the cells hold
unfoldable pub trade_from : List ℕ → VenueRows → InstrumentRows → List ℕ → Underlying → TradeFacts
trade_from line venue rows kinds underlying =
    trade_with line venue rows (eqb (get_or kinds 30 0) 2 && eqb (get_or kinds 33 0) 4 && rows.debt) (eqb (get_or kinds 35 0) 1 && rows.bond)
    (not underlying.right)

-- 251, 290 and 570; `entity` says whether one of the parties is the executing entity
unfoldable pub deal_of : List ℕ → Bool → DealFacts
deal_of line entity =
    record {
      transmitted = (says "DEAL" (cell line 29) || says "MTCH" (cell line 29)) && not (says "FALSE" (cell line 25));
      not_own = says "DEAL" (cell line 29) && not entity;
      undecided = says "DEAL" (cell line 29) && (blank (cell line 26) && blank (cell line 27) && blank (cell line 57));
    }

-- all facts, those of the parties, the times and the trade being given
abbrev pub facts_with : PartiesFacts → TimeFacts → TradeFacts → List ℕ → Asked → Standing → Facts
facts_with parties time trade line asked standing =
    record {
      ok = good_cells line;
      live = is_live standing;
      entity = entity_from line asked.entity;
      parties = parties;
      country8 = country_from (cell line 8) asked.country8;
      country17 = country_from (cell line 17) asked.country17;
      country37 = country_from (cell line 37) asked.country37;
      time = time;
      deal = deal_of line (parties.buyer.entity || parties.seller.entity);
      money = money_from line asked.money;
      trade = trade;
      cfi = cfi_findings (holdings line) (cell line 43);
    }

unfoldable pub facts_from : List ℕ → Read → Asked → Standing → ℕ → ℕ → Facts
facts_from line read asked standing day micro =
    facts_with (parties_from line read asked.parties (moment_in read.moment).day) (time_from line read day micro)
    (trade_from line asked.venue asked.instrument (holdings line) read.underlying) line asked standing

-- 3307 to 3309
unfoldable pub polish_facts : List ℕ → Polish
polish_facts line = record { form = some_cell form_wrong line; check = some_cell check_wrong line; birth = some_dated born_wrong line }

-- In the words of the rules, which read every cell for themselves and do not say that a list is read only for the kind that it is of

unfoldable pub party_facts_of : Allowed → List ℕ → List ℕ → List ℕ → List ℕ → List ℕ → List ℕ → ℕ → PartyFacts
party_facts_of allowed lei cty ven s date entity t =
    record {
      lei = party_lei_wrong allowed lei s t;
      country = party_country_wrong allowed cty s t;
      mic = party_mic_wrong allowed ven s t;
      birth = birth_wrong allowed s date;
      shape = party_shape_wrong allowed s;
      late = is_late date t;
      entity = is_entity allowed s entity;
    }

unfoldable pub parties_of : List ℕ → List ℕ → List ℕ → List ℕ → ℕ → PartiesFacts
parties_of line lei cty ven t =
    record {
      buyer = party_facts_of allowed7 lei cty ven (cell line 7) (cell line 11) (cell line 4) t;
      buyer_for = party_facts_of allowed12 lei cty ven (cell line 12) (cell line 15) (cell line 4) t;
      seller = party_facts_of allowed7 lei cty ven (cell line 16) (cell line 20) (cell line 4) t;
      seller_for = party_facts_of allowed12 lei cty ven (cell line 21) (cell line 24) (cell line 4) t;
    }

unfoldable pub time_of : List ℕ → Moment → ℕ → ℕ → TimeFacts
time_of line moment day micro =
    record {
      not_before = not_before moment day micro;
      too_old = too_old moment.day day;
      past54 = is_past (cell line 54) moment.day;
      past55 = is_past (cell line 55) moment.day;
    }

unfoldable pub trade_of : List ℕ → List ℕ → List ℕ → List ℕ → ℕ → TradeFacts
trade_of line ven ins kinds t =
    trade_with line (venue_rows ven (cell line 36) t) (instrument_rows ins (cell line 41) t) (some_violates 330 kinds ins (cell line 41) t)
    (some_violates 350 kinds ins (cell line 41) t) (isin_wrong (cell line 47))

-- what the lists of a call say
abbrev pub asked_in : Call → Asked
asked_in c = asked_of c.line (read_of c.line) c.lei c.cty c.ccy c.ven c.ins (T c) c.day

unfoldable pub facts_of : Call → Facts
facts_of c =
    facts_with (parties_of c.line c.lei c.cty c.ven (T c)) (time_of c.line (moment_of (at c 28)) c.day c.micro)
    (trade_of c.line c.ven c.ins (holdings c.line) (T c)) c.line (asked_in c) (standing_of c)
