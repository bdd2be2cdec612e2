-- Counting lines of a history, the latest first: by firm, by heading and by code.
use Rattle.std.specs.Prelude.{ℕ, zero, suc, ◌+◌, Bool, false, cond, not, ◌&&◌, ◌||◌, List, [], ◌∷◌, ◌++◌, leb, length, take}
use Rattle.text.specs.Word.{same}
use Rattle.verdict.specs.Codes.{code_count}
use Rattle.verdict.specs.Verdict.{bit}
use Rattle.summary.specs.declared.Record.{Record}

-- what is asked of a line: whether it is no entity's; its entity; whether it counts under a heading, 0 to 4 in the order of a record's
-- counters; whether it has the j-th code
pub record Asked (L : Type 0) : Type 0 where
  pub nobody : L → Bool
  pub entity : L → List ℕ
  pub under : ℕ → L → Bool
  pub has : ℕ → L → Bool

abbrev pub among : List ℕ → List (List ℕ) → Bool
among e [] = false
among e (f ∷ fs) = same e f || among e fs

-- how many lines are such; whether one is may hang on those before it
abbrev pub count : {L : Type 0} → (L → List L → Bool) → List L → ℕ
count such [] = 0
count such (l ∷ earlier) = bit (such l earlier) + count such earlier

module _ {L : Type 0} (asked : Asked L) where
  -- the entities, in the order of their first lines
  unfoldable pub firms : List L → List (List ℕ)
  firms [] = []
  firms (l ∷ earlier) =
      cond (asked.nobody l || among (asked.entity l) (firms earlier)) (firms earlier) (firms earlier ++ (asked.entity l ∷ []))

  -- those that have a record, where there are m records
  abbrev pub seated : ℕ → List L → List (List ℕ)
  seated m history = take m (firms history)

  abbrev pub of_firm : List ℕ → L → List L → Bool
  of_firm e l earlier = not (asked.nobody l) && same (asked.entity l) e

  -- the common record's: of no entity, or of a new one when no record is free
  abbrev pub of_none : ℕ → L → List L → Bool
  of_none m l earlier = asked.nobody l || (not (among (asked.entity l) (seated m earlier)) && leb m (length (firms earlier)))

  -- how many such lines have each code, of k codes from the j-th on
  abbrev pub codes_of : (L → List L → Bool) → List L → ℕ → ℕ → List ℕ
  codes_of such history j zero = []
  codes_of such history j (suc k) = count (λ l earlier. such l earlier && asked.has j l) history ∷ codes_of such history (suc j) k

  -- the record that such lines make
  unfoldable pub record_of : List ℕ → (L → List L → Bool) → List L → Record
  record_of e such history =
      record {
        entity = e;
        accepted = count (λ l earlier. such l earlier && asked.under 0 l) history;
        cancelled = count (λ l earlier. such l earlier && asked.under 1 l) history;
        found = count (λ l earlier. such l earlier && asked.under 2 l) history;
        full = count (λ l earlier. such l earlier && asked.under 3 l) history;
        refused = count (λ l earlier. such l earlier && asked.under 4 l) history;
        codes = codes_of such history 0 code_count;
      }

-- the lines of a record
abbrev pub lines_in : Record → ℕ
lines_in r = r.accepted + r.cancelled + r.found + r.full + r.refused

abbrev pub lines_in_all : List Record → ℕ
lines_in_all [] = 0
lines_in_all (r ∷ rs) = lines_in r + lines_in_all rs
