-- Cell forms: what each form asks, and which form each cell has. Blank is no matter of the form.
use Rattle.std.specs.Prelude.{ℕ, zero, suc, Bool, false, cond, not, ◌&&◌, ◌||◌, List, [], ◌∷◌, eqb, get_or, drop}
use Prim.Native.String.{String}
use Rattle.text.specs.Ascii.{ascii}
use Rattle.text.specs.Class.{run_of}
use Rattle.text.specs.declared.classes.Class.TheVariants.{Capital, CapitalDigit, Alphanumeric, Printable}
use Rattle.text.specs.Word.{blank, same, starts_with, one_of}
use Rattle.utf8.specs.Abnf.{points_within}
use Rattle.calendar.specs.Dates.{date_of, is_date}
use Rattle.calendar.specs.Moments.{when_of, is_when}
use Rattle.ident.specs.Codes.{lei_shaped, mic_shaped, isin_right}
use Rattle.ident.specs.Party.{allowed7, allowed12, allowed57, allowed59, party_of, is_malformed}
use Rattle.ident.specs.declared.parties.Allowed.{Allowed}
use Rattle.baskets.specs.Underlying.{underlying_of, is_underlying, terms_fit}
use Rattle.baskets.specs.declared.legs.Kind.{Kind}
use Rattle.baskets.specs.declared.legs.Kind.TheVariants.{Swap, Other, Malformed}
use Rattle.amount.specs.Decimal.{is_decimal}
use Rattle.amount.specs.Signed.{signed_of, signed_kind}
use Rattle.amount.specs.Price.{price_of, price_kind}
use Rattle.amount.specs.Quantity.{quantity_of, quantity_kind}
use Rattle.forms.specs.declared.findings.Status.{Status}
use Rattle.forms.specs.declared.findings.Status.TheVariants.{New, Cancellation, Neither}
use Rattle.forms.specs.declared.tables.Form.{Form}
use Rattle.forms.specs.declared.tables.Form.TheVariants.{ReportStatus, Reference, Lei, Truth, Counterparty, Decider, Country, Name, Date, Moment, Capacity, Quantity, Currency, Change, Price, Amount, Venue, SignedAmount, ComplexTrade, Isin, InstrumentName, Cfi, SecondCurrency, Multiplier, Underlying, Printed, SwapTerms, OtherTerms, NoTerms, OptionKind, OptionStyle, Delivery, Investor, Executor, Waiver, ShortSale, PostTrade}

-- the paper's word for each status of a line; what is neither has none
abbrev pub status_word : Status → List ℕ
status_word New = ascii "NEW"
status_word Cancellation = ascii "CXL"
status_word Neither = []

-- one of the four-letter words of a row
abbrev pub word : String → List ℕ → Bool
word words s = one_of 4 (ascii words) s

-- the word, then what the test takes
abbrev pub behind : String → (List ℕ → Bool) → ℕ → List ℕ → Bool
behind start test at s = starts_with (ascii start) s && test (drop at s)

-- a party of the kinds that a cell allows
abbrev pub is_party : Allowed → List ℕ → Bool
is_party allowed s = not (is_malformed (party_of allowed s).identifier)

unfoldable pub holds : Form → List ℕ → Bool
-- 1: NEW or CXL
holds ReportStatus s = same (status_word New) s || same (status_word Cancellation) s
-- 2, 3: 1 to 52 of A-Z 0-9. 40: 1 to 35 of a-z A-Z 0-9. 36: 4 of A-Z 0-9. 43: 6 of A-Z
holds Reference s = run_of CapitalDigit 1 52 s
holds ComplexTrade s = run_of Alphanumeric 1 35 s
holds Venue s = mic_shaped s
holds Cfi s = run_of Capital 6 6 s
-- 4, 6, 26, 27: 18 of A-Z 0-9, then 2 digits
holds Lei s = lei_shaped s
-- 7, 16; 12, 21; 57; 59: the kinds of party that each may hold
holds Counterparty s = is_party allowed7 s
holds Decider s = is_party allowed12 s
holds Investor s = is_party allowed57 s
holds Executor s = is_party allowed59 s
-- 5, 25, 64, 65: TRUE, FALSE. 8, 17, 37, 58, 60: 2 of A-Z. 31, 34, 39, 44, 52: 3 of A-Z. 45: FX: or INTRST:, then 3
holds Truth s = same (ascii "TRUE") s || same (ascii "FALSE") s
holds Country s = run_of Capital 2 2 s
holds Currency s = run_of Capital 3 3 s
holds SecondCurrency s = behind "FX:" (run_of Capital 3 3) 3 s || behind "INTRST:" (run_of Capital 3 3) 7 s
-- 9, 10, 13, 14, 18, 19, 22, 23: 1 to 140 code points, 42 up to 350
holds Name s = points_within 140 s
holds InstrumentName s = points_within 350 s
-- 11, 15, 20, 24, 54, 55: a real day. 28: a moment
holds Date s = is_date (date_of s)
holds Moment s = is_when (when_of s)
-- the words of 29, 32, 50, 53, 56, 61, 62 and 63
holds Capacity s = word "DEALMTCHAOTC" s
holds Change s = word "INCRDECR" s
holds OptionKind s = word "PUTOCALLOTHR" s
holds OptionStyle s = word "EUROAMERASIABERMOTHR" s
holds Delivery s = word "PHYSCASHOPTL" s
holds Waiver s = word "RFPTNLIQOILQPRICSIZEILQD" s
holds ShortSale s = word "SESHSSEXSELLUNDI" s
holds PostTrade s = word "BENCACTXLRGSILQDSIZECANCAMNDSDIVPRICDUPLTNCPTPACXFPH" s
-- 30; 33, 51; 35; 38; 46
holds Quantity s = not (eqb (quantity_kind (quantity_of s)) 0)
holds Price s = not (eqb (price_kind (price_of s)) 0)
holds Amount s = is_decimal 18 5 19 s
holds SignedAmount s = not (eqb (signed_kind (signed_of 5 s)) 0)
holds Multiplier s = is_decimal 18 17 19 s
-- 41: 2 letters, 9 of A-Z 0-9, digit, right by the ISO 6166 check
holds Isin s = isin_right s
-- 47: SWAP: or OTHR:, then nothing or legs. 48: up to 400 printable ASCII
holds Underlying s = is_underlying (underlying_of s).kind
holds Printed s = run_of Printable 1 400 s
-- 49: legs of terms, as SWAP: has them or as OTHR: does; nothing
holds SwapTerms s = terms_fit Swap s
holds OtherTerms s = terms_fit Other s
holds NoTerms s = false

-- the form of 49 by what 47 holds: as 48 where that is malformed
abbrev pub terms_of_kind : Kind → Form
terms_of_kind Swap = SwapTerms
terms_of_kind Other = OtherTerms
terms_of_kind Malformed = Printed

abbrev pub terms_by : List ℕ → Form
terms_by underlying = cond (blank underlying) NoTerms (terms_of_kind (underlying_of underlying).kind)

-- the form of each cell, ten cells a line; `underlying` is what cell 47 holds
abbrev pub forms_of_cells : List ℕ → List Form
forms_of_cells underlying =
    ReportStatus ∷ Reference ∷ Reference ∷ Lei ∷ Truth ∷ Lei ∷ Counterparty ∷ Country ∷ Name ∷ Name ∷
    Date ∷ Decider ∷ Name ∷ Name ∷ Date ∷ Counterparty ∷ Country ∷ Name ∷ Name ∷ Date ∷
    Decider ∷ Name ∷ Name ∷ Date ∷ Truth ∷ Lei ∷ Lei ∷ Moment ∷ Capacity ∷ Quantity ∷
    Currency ∷ Change ∷ Price ∷ Currency ∷ Amount ∷ Venue ∷ Country ∷ SignedAmount ∷ Currency ∷ ComplexTrade ∷
    Isin ∷ InstrumentName ∷ Cfi ∷ Currency ∷ SecondCurrency ∷ Multiplier ∷ Underlying ∷ Printed ∷ terms_by underlying ∷ OptionKind ∷
    Price ∷ Currency ∷ OptionStyle ∷ Date ∷ Date ∷ Delivery ∷ Investor ∷ Country ∷ Executor ∷ Country ∷
    Waiver ∷ ShortSale ∷ PostTrade ∷ Truth ∷ Truth ∷ []

-- the form of cell f, counted from 1
unfoldable pub form_of : List ℕ → ℕ → Form
form_of underlying zero = ReportStatus
form_of underlying (suc f) = get_or (forms_of_cells underlying) f ReportStatus
