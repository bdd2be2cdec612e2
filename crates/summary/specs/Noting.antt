-- Where a line is counted: in its entity's record, else in the first free one, else in the common record.
use Rattle.std.specs.Prelude.{ℕ, suc, ◌≡◌, Bool, true, false, cond, ◌||◌, List, [], ◌∷◌, ltb, length, get_or, set, take}
use Rattle.text.specs.Word.{same}
use Rattle.summary.specs.declared.Line.{Line}
use Rattle.summary.specs.declared.Record.{Record}
use Rattle.summary.specs.declared.Tally.{Tally}
use Rattle.summary.specs.declared.Noted.{Noted}
use Rattle.summary.specs.Counting.{blank, fresh, entered_of, counted_of}
use Rattle.summary.specs.Judged.{no_entity}

-- records past these stay unused
abbrev pub most_records : ℕ
most_records = 256

-- how many records are used: none for a line of no entity
unfoldable pub reach_of : ℕ → List ℕ → ℕ
reach_of room e = cond (blank e) 0 (cond (ltb room most_records) room most_records)

-- the search for e stops at a record of the entity k: it is free, or it is e's
unfoldable pub stops_at : List ℕ → List ℕ → Bool
stops_at k e = blank k || same e k

-- of rows that have a name each, the place of the first where it stops, and how many there are where it does not
unfoldable pub first_stop : {R : Type 0} → (R → List ℕ) → List ℕ → List R → ℕ
first_stop name e [] = 0
first_stop name e (r ∷ rs) = cond (stops_at (name r) e) 0 (suc (first_stop name e rs))

abbrev pub entity_of : Record → List ℕ
entity_of r = r.entity

abbrev pub place_of : List ℕ → List Record → ℕ
place_of e records = first_stop entity_of e (take (reach_of (length records) e) records)

abbrev pub free : Record
free = fresh no_entity

pub record After : Type 0 where
  pub records : List Record
  pub common : Record
  pub noted : Noted

abbrev pub in_table : List Record → Record → ℕ → Tally → After
in_table records common place counted =
    record { records = set records place counted.after; common = common; noted = record { common = false; stuck = counted.stuck } }

abbrev pub in_common : List Record → Tally → After
in_common records counted = record { records = records; common = counted.after; noted = record { common = true; stuck = counted.stuck } }

unfoldable pub note_of : List Record → Record → Line → After
note_of records common l =
    cond (ltb (place_of l.entity records) (reach_of (length records) l.entity))
    (in_table records common (place_of l.entity records) (entered_of (get_or records (place_of l.entity records) free) l))
    (in_common records (counted_of common l))

-- what a call leaves is that
pub record Noting (a : After) (noted : Noted) (records : List Record) (common : Record) : Type 0 where
  pub says : noted ≡ a.noted
  pub counts : records ≡ a.records
  pub keeps : common ≡ a.common
