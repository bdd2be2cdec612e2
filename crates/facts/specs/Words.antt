-- The words in which the rules are said: of cells, lists and days.
use Rattle.std.specs.Prelude.{ℕ, Bool, Option, Some, None, true, false, cond, not, ◌&&◌, ◌||◌, List, [], eqb, leb, ltb, drop}
use Prim.Native.String.{String}
use Rattle.text.specs.Ascii.{ascii}
use Rattle.text.specs.Word.{blank, same, starts_with, one_of}
use Rattle.calendar.specs.Day.{five_years_before}
use Rattle.calendar.specs.Dates.{date_of}
use Rattle.calendar.specs.Moments.{when_of, is_before}
use Rattle.calendar.specs.declared.moments.Moment.{Moment}
use Rattle.ident.specs.Codes.{lei_right}
use Rattle.ident.specs.Person.{country_of, concat_day}
use Rattle.ident.specs.Party.{party_of, part_of, is_lei, is_mic, is_concat, is_person}
use Rattle.ident.specs.declared.parties.Allowed.{Allowed}
use Rattle.ident.specs.declared.parties.Identifier.{Identifier}
use Rattle.baskets.specs.Items.{all_right}
use Rattle.baskets.specs.Underlying.{isins_in, underlying_of}
use Rattle.baskets.specs.declared.items.Holds.TheVariants.{Isin}
use Rattle.baskets.specs.declared.legs.Kind.{Kind}
use Rattle.baskets.specs.declared.legs.Kind.TheVariants.{Swap, Other, Malformed}
use Rattle.baskets.specs.declared.underlying.Underlying.{Underlying}
use Rattle.amount.specs.Price.{price_of, price_kind}
use Rattle.amount.specs.Quantity.{quantity_of, quantity_kind}
use Rattle.lists.specs.Lookups.{lei_rows, country_known, currency_rows, venue_rows}
use Rattle.register.specs.declared.rows.Standing.{Standing}
use Rattle.register.specs.declared.rows.Standing.TheVariants.{Absent, Live, Cancelled}

abbrev pub present : List ℕ → Bool
present s = not (blank s)

-- the cell is the word
abbrev pub says : String → List ℕ → Bool
says word s = same (ascii word) s

-- XXXX or XOFF: no venue
abbrev pub off : List ℕ → Bool
off s = says "XXXX" s || says "XOFF" s

-- the moment of cell 28, and its day
abbrev pub moment_in : Option Moment → Moment
moment_in (Some moment) = moment
moment_in None = record { day = 0; micro = 0 }

unfoldable pub moment_of : List ℕ → Moment
moment_of s = moment_in (when_of s)

-- the day of a date cell
abbrev pub day_in : Option ℕ → ℕ
day_in (Some day) = day
day_in None = 0

unfoldable pub day_of : List ℕ → ℕ
day_of s = day_in (date_of s)

-- how a pair stands in the register
abbrev pub is_live : Standing → Bool
is_live Live = true
is_live Absent = false
is_live Cancelled = false

abbrev pub is_absent : Standing → Bool
is_absent Absent = true
is_absent Live = false
is_absent Cancelled = false

abbrev pub is_cancelled : Standing → Bool
is_cancelled Cancelled = true
is_cancelled Absent = false
is_cancelled Live = false

-- LEI good on a day: remainder 1 by 97, and a row with status 1, 3 or 4; with any of 1 to 4
unfoldable pub lei_good_unlapsed : List ℕ → List ℕ → ℕ → Bool
lei_good_unlapsed lei s day = lei_right s && (lei_rows lei s day).unlapsed

unfoldable pub lei_good : List ℕ → List ℕ → ℕ → Bool
lei_good lei s day = lei_right s && (lei_rows lei s day).any

-- of a party on T: until 2018-07-02 whenever registered, from 2018-07-03 on as above
unfoldable pub party_lei_good : List ℕ → List ℕ → ℕ → Bool
party_lei_good lei s t = lei_right s && cond (leb t 20180702) (lei_rows lei s t).whenever (lei_rows lei s t).any

-- present, and no good LEI
unfoldable pub lei_wrong : List ℕ → List ℕ → ℕ → Bool
lei_wrong lei s day = present s && not (lei_good lei s day)

-- present, and no row on the day
unfoldable pub country_wrong : List ℕ → List ℕ → ℕ → Bool
country_wrong cty s day = present s && not (country_known cty s day)

-- the kinds of venue that a cell's rows give it on the day
abbrev pub kind1 : List ℕ → List ℕ → ℕ → Bool
kind1 ven s day = (venue_rows ven s day).kind1

abbrev pub kind2 : List ℕ → List ℕ → ℕ → Bool
kind2 ven s day = (venue_rows ven s day).kind2

abbrev pub kind3 : List ℕ → List ℕ → ℕ → Bool
kind3 ven s day = (venue_rows ven s day).kind3

-- of a party: its kind by the cell's kinds, and what follows the colon
abbrev pub kind_of : Allowed → List ℕ → Identifier
kind_of allowed s = (party_of allowed s).identifier

abbrev pub part_in : Allowed → List ℕ → List ℕ
part_in allowed s = part_of (kind_of allowed s) s

-- 070: a LEI that is not good
unfoldable pub party_lei_wrong : Allowed → List ℕ → List ℕ → ℕ → Bool
party_lei_wrong allowed lei s t = is_lei (kind_of allowed s) && not (party_lei_good lei (part_in allowed s) t)

-- 071: a person whose first two characters, if both capitals, are no country
unfoldable pub party_country_wrong : Allowed → List ℕ → List ℕ → ℕ → Bool
party_country_wrong allowed cty s day = is_person (kind_of allowed s) && country_wrong cty (country_of (part_in allowed s)) day

-- 072: a MIC that is XXXX, XOFF, or has no row of kind 1 or 3
unfoldable pub party_mic_wrong : Allowed → List ℕ → List ℕ → ℕ → Bool
party_mic_wrong allowed ven s day =
    is_mic (kind_of allowed s) && (off (part_in allowed s) || not (kind1 ven (part_in allowed s) day || kind3 ven (part_in allowed s) day))

-- 074: a person, not of the person shape
unfoldable pub party_shape_wrong : Allowed → List ℕ → Bool
party_shape_wrong allowed s = is_person (kind_of allowed s) && not (party_of allowed s).shaped

-- 073: a CONCAT of right shape whose 8 digits are not the date, where that is present
unfoldable pub birth_wrong : Allowed → List ℕ → List ℕ → Bool
birth_wrong allowed s date =
    is_concat (kind_of allowed s) && (party_of allowed s).shaped && (present date && not (eqb (concat_day (part_in allowed s)) (day_of date)))

-- 110: the date is present and after the day
unfoldable pub is_late : List ℕ → ℕ → Bool
is_late date day = present date && ltb day (day_of date)

-- 541: the date is present and before the day
unfoldable pub is_past : List ℕ → ℕ → Bool
is_past date day = present date && ltb (day_of date) day

-- 290: the party is the LEI of the executing entity; any other kind is not
unfoldable pub is_entity : Allowed → List ℕ → List ℕ → Bool
is_entity allowed s entity = is_lei (kind_of allowed s) && same entity (part_in allowed s)

-- codes that are no currency of a trade
abbrev pub no_money : List ℕ → Bool
no_money s = one_of 3 (ascii "XAGXAUXBAXBBXBCXBDXDRXEUXFUXPDXPTXXX") s

-- present, and one of these or without a current row on the day
unfoldable pub currency_wrong : List ℕ → List ℕ → ℕ → Bool
currency_wrong ccy s day = present s && (no_money s || not (currency_rows ccy s day).current)

-- for 310 a pre-euro row of any day also serves
unfoldable pub quantity_currency_wrong : List ℕ → List ℕ → ℕ → Bool
quantity_currency_wrong ccy s day = present s && (no_money s || not ((currency_rows ccy s day).current || (currency_rows ccy s day).pre_euro))

-- the currency of cell 45, behind FX: or INTRST:
unfoldable pub second_currency : List ℕ → List ℕ
second_currency s = cond (starts_with (ascii "FX:") s) (drop 3 s) (cond (starts_with (ascii "INTRST:") s) (drop 7 s) [])

-- 470: some ISIN of cell 47 has a wrong check digit
unfoldable pub isin_wrong : List ℕ → Bool
isin_wrong s = not (all_right Isin (isins_in s))

-- 280: not before the submission moment
unfoldable pub not_before : Moment → ℕ → ℕ → Bool
not_before moment day micro = not (is_before moment (record { day = day; micro = micro }))

-- 281: before 2018-01-03, or before the day five years before S
unfoldable pub too_old : ℕ → ℕ → Bool
too_old t s = ltb t 20180103 || ltb t (five_years_before s)

-- What a cell holds, by number, as the CFI rules ask it: 1 blank, from 2 on the values of the cell in the paper's order
abbrev pub held_at_all : List ℕ → ℕ
held_at_all s = cond (blank s) 1 2

-- one of three words
unfoldable pub held_word : List ℕ → List ℕ → List ℕ → List ℕ → ℕ
held_word first second third s = cond (blank s) 1 (cond (same first s) 2 (cond (same second s) 3 (cond (same third s) 4 0)))

unfoldable pub held_quantity : List ℕ → ℕ
held_quantity s = cond (blank s) 1 (quantity_kind (quantity_of s))

unfoldable pub held_price : List ℕ → ℕ
held_price s = cond (blank s) 1 (price_kind (price_of s))

-- 47: SWAP: or OTHR:; last a SWAP: that has no leg while 48 is blank, which 473 does not take for one
abbrev pub kind_held : Kind → Bool → ℕ
kind_held Swap empty = cond empty 4 2
kind_held Other empty = 3
kind_held Malformed empty = 0

-- by cell 47, what was read of it, and cell 48
abbrev pub swap_held : List ℕ → Underlying → List ℕ → ℕ
swap_held s underlying name = cond (blank s) 1 (kind_held underlying.kind (not underlying.legs && blank name))

unfoldable pub held_swap : List ℕ → List ℕ → ℕ
held_swap s name = swap_held s (underlying_of s) name
