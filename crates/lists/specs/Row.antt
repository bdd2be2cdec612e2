-- What a row says behind its key. Other byte values than those named match nothing.
use Rattle.std.specs.Prelude.{ℕ, ◌+◌, Bool, ◌&&◌, ◌||◌, List, leb, eqb, get_or, take, drop}
use Rattle.text.specs.Number.{little_endian}
use Rattle.cfi.specs.Rules.{matches_code}

abbrev pub byte_at : ℕ → List ℕ → ℕ
byte_at at row = get_or row at 0

-- a day is 32 bits, yyyymmdd
abbrev pub day_at : ℕ → List ℕ → ℕ
day_at at row = little_endian 4 (drop at row)

-- from, to: both ends included
abbrev pub in_days : ℕ → ℕ → List ℕ → Bool
in_days at day row = leb (day_at at row) day && leb day (day_at (at + 4) row)

-- LEI: 20 key, status byte, entity byte, registration day, update day.
-- Status 1 issued, 2 lapsed, 3 pending transfer, 4 pending archival
abbrev pub unlapsed : ℕ → Bool
unlapsed status = eqb status 1 || eqb status 3 || eqb status 4

abbrev pub any_status : ℕ → Bool
any_status status = leb 1 status && leb status 4

-- a status of the set, and active (1), or inactive (2) with update on or after the day; whenever it was registered
abbrev pub lei_stands : (ℕ → Bool) → ℕ → List ℕ → Bool
lei_stands statuses day row = statuses (byte_at 20 row) && (eqb (byte_at 21 row) 1 || eqb (byte_at 21 row) 2 && leb day (day_at 26 row))

-- the same, and registered by the day
abbrev pub lei_serves : (ℕ → Bool) → ℕ → List ℕ → Bool
lei_serves statuses day row = lei_stands statuses day row && leb (day_at 22 row) day

-- CTY: 2 key, from, to
abbrev pub country_on : ℕ → List ℕ → Bool
country_on day row = in_days 2 day row

-- CCY: 3 key, byte (1 current, 2 pre-euro), from, to. A pre-euro row serves on any day
abbrev pub current_on : ℕ → List ℕ → Bool
current_on day row = eqb (byte_at 3 row) 1 && in_days 4 day row

abbrev pub pre_euro : List ℕ → Bool
pre_euro row = eqb (byte_at 3 row) 2

-- VEN: 4 key, byte (1 EEA venue, 2 systematic internaliser, 3 venue outside the EEA), from, to
abbrev pub venue_on : ℕ → ℕ → List ℕ → Bool
venue_on kind day row = eqb (byte_at 4 row) kind && in_days 5 day row

-- INS: 12 ISIN, 6 CFI, from, to
abbrev pub listed_on : ℕ → List ℕ → Bool
listed_on day row = in_days 18 day row

abbrev pub cfi_of : List ℕ → List ℕ
cfi_of row = take 6 (drop 12 row)

-- the CFI of the row is one for which the paper has the code: a CFI that holds other bytes than capital letters matches no pattern
abbrev pub cfi_on : ℕ → ℕ → List ℕ → Bool
cfi_on code day row = matches_code code (cfi_of row) && listed_on day row
