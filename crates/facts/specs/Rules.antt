-- The rules, one entry each in rising order: the code, for which lines it is judged, the cells that it reads, and when it is violated.
-- There are 73, and 3 for Polish identifiers, whose codes stand behind those of the forms.
use Rattle.std.specs.Prelude.{ℕ, Bool, false, not, ◌&&◌, ◌||◌, List, [], ◌∷◌, ◌++◌, map, get_or, set, replicate}
use Rattle.text.specs.Ascii.{ascii}
use Rattle.text.specs.Word.{blank, same}
use Rattle.cells.specs.Cells.{cell}
use Rattle.forms.specs.declared.findings.Status.TheVariants.{New, Cancellation}
use Rattle.forms.specs.Forms.{status_word}
use Rattle.forms.specs.Findings.{form_findings}
use Rattle.ident.specs.Party.{allowed7, allowed12, allowed57, allowed59, party_of}
use Rattle.ident.specs.declared.parties.Allowed.{Allowed}
use Rattle.ident.specs.declared.parties.Party.{Party}
use Rattle.polish.specs.Cells.{form_wrong, check_wrong, born_wrong}
use Rattle.lists.specs.Lookups.{instrument_rows, some_violates}
use Rattle.register.specs.Pair.{pair_bytes}
use Rattle.register.specs.Rows.{standing}
use Rattle.register.specs.declared.rows.Standing.{Standing}
use Rattle.cfi.specs.Rules.{violated}
use Rattle.facts.specs.Call.{Call}
use Rattle.facts.specs.Words.{present, says, off, moment_of, day_of, is_live, is_absent, is_cancelled, lei_good_unlapsed, lei_good, lei_wrong, country_wrong, kind1, kind2, kind3, party_lei_wrong, party_country_wrong, party_mic_wrong, party_shape_wrong, birth_wrong, is_late, is_past, is_entity, currency_wrong, quantity_currency_wrong, second_currency, isin_wrong, not_before, too_old, held_at_all, held_word, held_quantity, held_price, held_swap}

-- for which lines a rule is judged
pub data When : Type 0 where
  OnNew : When
  OnCxl : When
  OnBoth : When

pub record Rule : Type 0 where
  pub code : ℕ
  pub status : When
  pub reads : List ℕ
  pub violated_by : Call → Bool

abbrev pub rule : ℕ → When → List ℕ → (Call → Bool) → Rule
rule code status reads violated_by = record { code = code; status = status; reads = reads; violated_by = violated_by }

abbrev pub is_new : List ℕ → Bool
is_new line = same (status_word New) (cell line 1)

abbrev pub is_cxl : List ℕ → Bool
is_cxl line = same (status_word Cancellation) (cell line 1)

abbrev pub judged : List ℕ → When → Bool
judged line OnNew = is_new line
judged line OnCxl = is_cxl line
judged line OnBoth = is_new line || is_cxl line

-- cell f, by its number, has no form finding
unfoldable pub good_cells : List ℕ → List Bool
good_cells line = false ∷ map not (form_findings line)

abbrev pub good : List ℕ → ℕ → Bool
good line f = get_or (good_cells line) f false

-- judged for this line, and none of the cells that it reads has a form finding
abbrev pub and_good : List ℕ → Bool → List ℕ → Bool
and_good line so_far [] = so_far
and_good line so_far (f ∷ fs) = and_good line (so_far && good line f) fs

abbrev pub guard : List ℕ → Rule → Bool
guard line r = and_good line (judged line r.status) r.reads

-- the rule's code is given
abbrev pub given : Call → Rule → Bool
given c r = guard c.line r && r.violated_by c

-- cell f of the call's line
abbrev pub at : Call → ℕ → List ℕ
at c f = cell c.line f

-- T, the day of cell 28
abbrev pub T : Call → ℕ
T c = (moment_of (at c 28)).day

-- the pair is cells 4 and 2
unfoldable pub pair_stands : List ℕ → List ℕ → Standing
pair_stands register line = standing register (pair_bytes (cell line 4) (cell line 2))

abbrev pub standing_of : Call → Standing
standing_of c = pair_stands c.register c.line

-- what the cells hold that the rules by CFI ask for
unfoldable pub holdings : List ℕ → List ℕ
holdings line =
    set (set (set (set (set (set (set (set (set (set (set (set (set (replicate 66 0)
    30 (held_quantity (cell line 30)))
    33 (held_price (cell line 33)))
    35 (held_at_all (cell line 35)))
    38 (held_at_all (cell line 38)))
    47 (held_swap (cell line 47) (cell line 48)))
    48 (held_at_all (cell line 48)))
    49 (held_at_all (cell line 49)))
    50 (held_word (ascii "PUTO") (ascii "CALL") (ascii "OTHR") (cell line 50)))
    51 (held_at_all (cell line 51)))
    53 (held_at_all (cell line 53)))
    54 (held_at_all (cell line 54)))
    55 (held_at_all (cell line 55)))
    56 (held_word (ascii "PHYS") (ascii "CASH") (ascii "OPTL") (cell line 56))

-- the code's condition of the rules by CFI
abbrev pub by_cfi : ℕ → Call → Bool
by_cfi code c = violated (holdings c.line) (at c 43) code

-- the same by some INS row of 41 on T; 43 is not read
abbrev pub by_instrument : ℕ → Call → Bool
by_instrument code c = some_violates code (holdings c.line) c.ins (at c 41) (T c)

-- 41 is in INS on T
abbrev pub listed_on : Call → Bool
listed_on c = (instrument_rows c.ins (at c 41) (T c)).listed

-- 36 on T
abbrev pub venue1 : Call → Bool
venue1 c = kind1 c.ven (at c 36) (T c)

abbrev pub venue2 : Call → Bool
venue2 c = kind2 c.ven (at c 36) (T c)

abbrev pub venue3 : Call → Bool
venue3 c = kind3 c.ven (at c 36) (T c)

-- the pair, the venue of 3, the entities, the buyer
abbrev pub rules1 : List Rule
rules1 =
    rule 23 OnNew (4 ∷ 2 ∷ []) (λ c. is_live (standing_of c))
    ∷ rule 24 OnCxl (4 ∷ 2 ∷ []) (λ c. is_absent (standing_of c))
    ∷ rule 25 OnCxl (4 ∷ 2 ∷ []) (λ c. is_cancelled (standing_of c))
    ∷ rule 30 OnNew (3 ∷ 36 ∷ 28 ∷ []) (λ c. present (at c 3) && (off (at c 36) || venue2 c || venue3 c))
    ∷ rule 40 OnNew (4 ∷ 5 ∷ 28 ∷ []) (λ c. says "TRUE" (at c 5) && not (lei_good_unlapsed c.lei (at c 4) (T c)))
    ∷ rule 41 OnNew (4 ∷ 5 ∷ 28 ∷ []) (λ c. says "FALSE" (at c 5) && not (lei_good c.lei (at c 4) (T c)))
    ∷ rule 60 OnBoth (6 ∷ []) (λ c. not (lei_good c.lei (at c 6) c.day))
    ∷ rule 70 OnNew (7 ∷ 28 ∷ []) (λ c. party_lei_wrong allowed7 c.lei (at c 7) (T c))
    ∷ rule 71 OnNew (7 ∷ 28 ∷ []) (λ c. party_country_wrong allowed7 c.cty (at c 7) (T c))
    ∷ rule 72 OnNew (7 ∷ 28 ∷ []) (λ c. party_mic_wrong allowed7 c.ven (at c 7) (T c))
    ∷ rule 73 OnNew (7 ∷ 11 ∷ []) (λ c. birth_wrong allowed7 (at c 7) (at c 11))
    ∷ rule 74 OnNew (7 ∷ []) (λ c. party_shape_wrong allowed7 (at c 7))
    ∷ []

-- the buyer's country and date, the buyer's decision maker, the seller
abbrev pub rules2 : List Rule
rules2 =
    rule 80 OnNew (8 ∷ 28 ∷ []) (λ c. country_wrong c.cty (at c 8) (T c))
    ∷ rule 110 OnNew (11 ∷ 28 ∷ []) (λ c. is_late (at c 11) (T c))
    ∷ rule 120 OnNew (12 ∷ 28 ∷ []) (λ c. party_lei_wrong allowed12 c.lei (at c 12) (T c))
    ∷ rule 121 OnNew (12 ∷ 28 ∷ []) (λ c. party_country_wrong allowed12 c.cty (at c 12) (T c))
    ∷ rule 122 OnNew (12 ∷ 15 ∷ []) (λ c. birth_wrong allowed12 (at c 12) (at c 15))
    ∷ rule 123 OnNew (12 ∷ []) (λ c. party_shape_wrong allowed12 (at c 12))
    ∷ rule 150 OnNew (15 ∷ 28 ∷ []) (λ c. is_late (at c 15) (T c))
    ∷ rule 160 OnNew (16 ∷ 28 ∷ []) (λ c. party_lei_wrong allowed7 c.lei (at c 16) (T c))
    ∷ rule 161 OnNew (16 ∷ 28 ∷ []) (λ c. party_country_wrong allowed7 c.cty (at c 16) (T c))
    ∷ rule 162 OnNew (16 ∷ 28 ∷ []) (λ c. party_mic_wrong allowed7 c.ven (at c 16) (T c))
    ∷ rule 163 OnNew (16 ∷ 20 ∷ []) (λ c. birth_wrong allowed7 (at c 16) (at c 20))
    ∷ rule 164 OnNew (16 ∷ []) (λ c. party_shape_wrong allowed7 (at c 16))
    ∷ []

-- the seller's country and date, the seller's decision maker, transmission, capacity
abbrev pub rules3 : List Rule
rules3 =
    rule 170 OnNew (17 ∷ 28 ∷ []) (λ c. country_wrong c.cty (at c 17) (T c))
    ∷ rule 200 OnNew (20 ∷ 28 ∷ []) (λ c. is_late (at c 20) (T c))
    ∷ rule 210 OnNew (21 ∷ 28 ∷ []) (λ c. party_lei_wrong allowed12 c.lei (at c 21) (T c))
    ∷ rule 211 OnNew (21 ∷ 28 ∷ []) (λ c. party_country_wrong allowed12 c.cty (at c 21) (T c))
    ∷ rule 212 OnNew (21 ∷ 24 ∷ []) (λ c. birth_wrong allowed12 (at c 21) (at c 24))
    ∷ rule 213 OnNew (21 ∷ []) (λ c. party_shape_wrong allowed12 (at c 21))
    ∷ rule 240 OnNew (24 ∷ 28 ∷ []) (λ c. is_late (at c 24) (T c))
    ∷ rule 251 OnNew (29 ∷ 25 ∷ []) (λ c. (says "DEAL" (at c 29) || says "MTCH" (at c 29)) && not (says "FALSE" (at c 25)))
    ∷ rule 260 OnNew (26 ∷ 28 ∷ []) (λ c. lei_wrong c.lei (at c 26) (T c))
    ∷ rule 270 OnNew (27 ∷ 28 ∷ []) (λ c. lei_wrong c.lei (at c 27) (T c))
    ∷ rule 280 OnNew (28 ∷ []) (λ c. not_before (moment_of (at c 28)) c.day c.micro)
    ∷ rule 281 OnNew (28 ∷ []) (λ c. too_old (T c) c.day)
    ∷ []

-- dealing, the quantity's and the price's currency, debt, the venue
abbrev pub rules4 : List Rule
rules4 =
    rule 290 OnNew (29 ∷ 7 ∷ 16 ∷ 4 ∷ []) (λ c. says "DEAL" (at c 29) && not (is_entity allowed7 (at c 7) (at c 4) || is_entity allowed7 (at c 16) (at c 4)))
    ∷ rule 310 OnNew (31 ∷ 28 ∷ []) (λ c. quantity_currency_wrong c.ccy (at c 31) (T c))
    ∷ rule 330 OnNew (43 ∷ 30 ∷ 33 ∷ []) (by_cfi 330)
    ∷ rule 331 OnNew (41 ∷ 28 ∷ 30 ∷ 33 ∷ []) (by_instrument 330)
    ∷ rule 340 OnNew (34 ∷ 28 ∷ []) (λ c. currency_wrong c.ccy (at c 34) (T c))
    ∷ rule 350 OnNew (43 ∷ 35 ∷ []) (by_cfi 350)
    ∷ rule 351 OnNew (41 ∷ 28 ∷ 35 ∷ []) (by_instrument 350)
    ∷ rule 360 OnNew (36 ∷ 28 ∷ []) (λ c. not (off (at c 36)) && not (venue1 c || venue2 c || venue3 c))
    ∷ rule 361 OnNew (36 ∷ 41 ∷ 28 ∷ []) (λ c. says "XXXX" (at c 36) && listed_on c)
    ∷ rule 362 OnNew (25 ∷ 36 ∷ []) (λ c. says "TRUE" (at c 25) && not (off (at c 36)))
    ∷ rule 370 OnNew (36 ∷ 28 ∷ 37 ∷ []) (λ c. (venue1 c || venue3 c) && blank (at c 37))
    ∷ rule 371 OnNew (37 ∷ 28 ∷ []) (λ c. country_wrong c.cty (at c 37) (T c))
    ∷ []

-- the venue's country, currencies, and the first half by CFI
abbrev pub rules5 : List Rule
rules5 =
    rule 372 OnNew (37 ∷ 36 ∷ 28 ∷ []) (λ c. present (at c 37) && (off (at c 36) || venue2 c))
    ∷ rule 380 OnNew (43 ∷ 38 ∷ []) (by_cfi 380)
    ∷ rule 440 OnNew (44 ∷ 28 ∷ []) (λ c. currency_wrong c.ccy (at c 44) (T c))
    ∷ rule 451 OnNew (45 ∷ 28 ∷ []) (λ c. currency_wrong c.ccy (second_currency (at c 45)) (T c))
    ∷ rule 470 OnNew (47 ∷ []) (λ c. isin_wrong (at c 47))
    ∷ rule 473 OnNew (43 ∷ 47 ∷ 48 ∷ []) (by_cfi 473)
    ∷ rule 480 OnNew (43 ∷ 48 ∷ []) (by_cfi 480)
    ∷ rule 481 OnNew (43 ∷ 48 ∷ []) (by_cfi 481)
    ∷ rule 490 OnNew (43 ∷ 49 ∷ []) (by_cfi 490)
    ∷ rule 500 OnNew (43 ∷ 50 ∷ []) (by_cfi 500)
    ∷ rule 501 OnNew (43 ∷ 50 ∷ []) (by_cfi 501)
    ∷ rule 502 OnNew (43 ∷ 50 ∷ []) (by_cfi 502)
    ∷ rule 510 OnNew (43 ∷ 51 ∷ []) (by_cfi 510)
    ∷ []

-- the second half by CFI, the dates of the contract, the decision maker of a deal
abbrev pub rules6 : List Rule
rules6 =
    rule 511 OnNew (43 ∷ 51 ∷ []) (by_cfi 511)
    ∷ rule 520 OnNew (52 ∷ 28 ∷ []) (λ c. currency_wrong c.ccy (at c 52) (T c))
    ∷ rule 530 OnNew (43 ∷ 53 ∷ []) (by_cfi 530)
    ∷ rule 531 OnNew (43 ∷ 53 ∷ []) (by_cfi 531)
    ∷ rule 540 OnNew (43 ∷ 54 ∷ []) (by_cfi 540)
    ∷ rule 541 OnNew (54 ∷ 28 ∷ []) (λ c. is_past (at c 54) (T c))
    ∷ rule 542 OnNew (43 ∷ 54 ∷ []) (by_cfi 542)
    ∷ rule 550 OnNew (43 ∷ 55 ∷ []) (by_cfi 550)
    ∷ rule 551 OnNew (43 ∷ 55 ∷ []) (by_cfi 551)
    ∷ rule 552 OnNew (55 ∷ 28 ∷ []) (λ c. is_past (at c 55) (T c))
    ∷ rule 560 OnNew (43 ∷ 56 ∷ []) (by_cfi 560)
    ∷ rule 570 OnNew (29 ∷ 26 ∷ 27 ∷ 57 ∷ []) (λ c. says "DEAL" (at c 29) && (blank (at c 26) && blank (at c 27) && blank (at c 57)))
    ∷ []

abbrev pub rules : List Rule
rules = rules1 ++ (rules2 ++ (rules3 ++ (rules4 ++ (rules5 ++ rules6))))

-- 3307 to 3309 judge the party in each cell by itself: a form finding in the cell rules out all three, and one in its date cell 3309
abbrev pub alone : List ℕ → ℕ → Allowed → (Party → List ℕ → Bool) → Bool
alone line f allowed wrong = good line f && wrong (party_of allowed (cell line f)) (cell line f)

abbrev pub with_date : List ℕ → ℕ → ℕ → Allowed → (Party → List ℕ → Bool → ℕ → Bool) → Bool
with_date line f d allowed wrong = good line f && good line d && wrong (party_of allowed (cell line f)) (cell line f) (present (cell line d)) (day_of (cell line d))

-- some cell is wrong: of the parties with a date; of 57 and 59, which have none; of all six
abbrev pub some_party : (Party → List ℕ → Bool) → List ℕ → Bool
some_party wrong line = alone line 7 allowed7 wrong || alone line 12 allowed12 wrong || alone line 16 allowed7 wrong || alone line 21 allowed12 wrong

abbrev pub some_trader : (Party → List ℕ → Bool) → List ℕ → Bool
some_trader wrong line = alone line 57 allowed57 wrong || alone line 59 allowed59 wrong

abbrev pub some_cell : (Party → List ℕ → Bool) → List ℕ → Bool
some_cell wrong line = some_party wrong line || some_trader wrong line

-- some party is, with its date
abbrev pub some_dated : (Party → List ℕ → Bool → ℕ → Bool) → List ℕ → Bool
some_dated wrong line =
    with_date line 7 11 allowed7 wrong || with_date line 12 15 allowed12 wrong || with_date line 16 20 allowed7 wrong || with_date line 21 24 allowed12 wrong

-- the rules for Polish identifiers, where the call asks for them
abbrev pub polish_rules : List Rule
polish_rules =
    rule 3307 OnNew [] (λ c. c.polish && some_cell form_wrong c.line)
    ∷ rule 3308 OnNew [] (λ c. c.polish && some_cell check_wrong c.line)
    ∷ rule 3309 OnNew [] (λ c. c.polish && some_dated born_wrong c.line)
    ∷ []

abbrev pub all_rules : List Rule
all_rules = rules ++ polish_rules

-- the 73 flags of a call, in the order of the codes
unfoldable pub flags : Call → List Bool
flags c = map (given c) rules

-- the 3 flags of the rules for Polish identifiers
unfoldable pub polish_flags : Call → List Bool
polish_flags c = map (given c) polish_rules

-- the 141 flags of a call: 73 rules, 65 forms, 3 rules for Polish identifiers
unfoldable pub all_flags : Call → List Bool
all_flags c = flags c ++ (form_findings c.line ++ polish_flags c)
