-- The facts over what was asked are the facts of the call whose lists were asked.
use mathlib.Core.Path.{◌≡◌, ◌∙◌, refl, ap, sym}
use mathlib.Core.Bool.{Bool, true, false, not, ◌&&◌, ◌||◌}
use mathlib.Core.List.{List}
use Prim.Native.Nat.{ℕ}
use Rattle.cells.specs.Cells.{cell}
use Rattle.ident.specs.Person.{country_of}
use Rattle.ident.specs.Party.{allowed7, allowed12, party_of, is_lei, is_mic, is_person}
use Rattle.ident.specs.declared.parties.Allowed.{Allowed}
use Rattle.baskets.specs.Underlying.{underlying_of}
use Rattle.calendar.specs.Dates.{date_of}
use Rattle.forms.specs.Read.{read_of}
use Rattle.lists.specs.Lookups.{country_known, venue_rows, instrument_rows}
use Rattle.lists.proofs.CfiLaws.{debt_violates, bond_violates}
use Rattle.facts.specs.Call.{Call}
use Rattle.facts.specs.Words.{present, off, moment_in, moment_of, day_of, party_lei_good, country_wrong, kind1, kind3, kind_of, part_in, party_lei_wrong, party_country_wrong, party_mic_wrong, party_shape_wrong, birth_wrong, is_late, is_past, is_entity, isin_wrong}
use Rattle.facts.specs.Asked.{party_asked, parties_asked, asked_of}
use Rattle.facts.specs.Rules.{T, standing_of, holdings}
use Rattle.facts.specs.Facts.{party_from, party_facts_of, parties_from, parties_of, time_from, time_of, trade_with, trade_from, trade_of, facts_with, facts_from, asked_in, facts_of}

-- what is asked only where a test holds serves behind that test
only : (k : Bool) (f : Bool → Bool) (x : Bool) → k && f (k && x) ≡ k && f x
only true f x = refl
only false f x = refl

party_from_lem :
    (allowed : Allowed) (lei cty ven s date entity : List ℕ) (t : ℕ)
    → party_from (party_of allowed s) s (present date) (date_of date) entity (party_asked (party_of allowed s) s lei cty ven t) t ≡ party_facts_of allowed lei cty ven s date entity t
unfolding party_from party_asked party_facts_of party_lei_wrong party_country_wrong country_wrong party_mic_wrong party_shape_wrong birth_wrong is_entity is_late day_of
party_from_lem allowed lei cty ven s date entity t =
    let part = part_in allowed s in
    λ i. record {
      lei = only (is_lei (kind_of allowed s)) not (party_lei_good lei part t) i;
      country = only (is_person (kind_of allowed s)) (λ x. present (country_of part) && not x) (country_known cty (country_of part) t) i;
      mic = only (is_mic (kind_of allowed s)) (λ x. off part || not x) (kind1 ven part t || kind3 ven part t) i;
      birth = birth_wrong allowed s date;
      shape = party_shape_wrong allowed s;
      late = is_late date t;
      entity = is_entity allowed s entity;
    }

parties_from_lem : (line lei cty ven : List ℕ) (t : ℕ) → parties_from line (read_of line) (parties_asked line (read_of line) lei cty ven t) t ≡ parties_of line lei cty ven t
unfolding parties_from parties_asked parties_of read_of
parties_from_lem line lei cty ven t =
    λ i. record {
      buyer = party_from_lem allowed7 lei cty ven (cell line 7) (cell line 11) (cell line 4) t i;
      buyer_for = party_from_lem allowed12 lei cty ven (cell line 12) (cell line 15) (cell line 4) t i;
      seller = party_from_lem allowed7 lei cty ven (cell line 16) (cell line 20) (cell line 4) t i;
      seller_for = party_from_lem allowed12 lei cty ven (cell line 21) (cell line 24) (cell line 4) t i;
    }

time_from_lem : (line : List ℕ) (day micro : ℕ) → time_from line (read_of line) day micro ≡ time_of line (moment_of (cell line 28)) day micro
unfolding time_from time_of read_of moment_of is_past day_of
time_from_lem line day micro = refl

day_from : (line : List ℕ) → (moment_in (read_of line).moment).day ≡ (moment_of (cell line 28)).day
unfolding read_of moment_of
day_from line = refl

pub trade_day_from : (c : Call) → (moment_in (read_of c.line).moment).day ≡ T c
trade_day_from c = day_from c.line

trade_from_lem :
    (line ven ins kinds : List ℕ) (t : ℕ)
    → trade_from line (venue_rows ven (cell line 36) t) (instrument_rows ins (cell line 41) t) kinds (read_of line).underlying ≡ trade_of line ven ins kinds t
unfolding trade_from trade_of read_of underlying_of isin_wrong
trade_from_lem line ven ins kinds t =
    λ i. trade_with line (venue_rows ven (cell line 36) t) (instrument_rows ins (cell line 41) t) (sym (debt_violates kinds ins (cell line 41) t) i) (sym (bond_violates kinds ins (cell line 41) t) i)
    (isin_wrong (cell line 47))

pub facts_from_lem : (c : Call) → facts_from c.line (read_of c.line) (asked_in c) (standing_of c) c.day c.micro ≡ facts_of c
unfolding facts_from facts_of asked_of
facts_from_lem c =
    λ i. facts_with ((ap (parties_from c.line (read_of c.line) (parties_asked c.line (read_of c.line) c.lei c.cty c.ven (T c))) (day_from c.line) ∙ parties_from_lem c.line c.lei c.cty c.ven (T c)) i)
    (time_from_lem c.line c.day c.micro i) (trade_from_lem c.line c.ven c.ins (holdings c.line) (T c) i) c.line (asked_in c) (standing_of c)
