-- A register after a pair was set live or cancelled. No byte changes but those named here, and none where the register
-- is not framed, where the row is no used one, or where there is no row left.
use Rattle.std.specs.Prelude.{ℕ, zero, suc, ◌+◌, ◌/◌, ◌%◌, cond, not, ◌&&◌, List, [], ◌∷◌, ◌++◌, Option, None, Some}
use Rattle.std.proofs.lemmas.List.Edits.{sets}
use Rattle.register.specs.Frame.{place, day_width, used, framed, full, is_used}
use Rattle.register.specs.Rows.{state_byte}
use Rattle.register.specs.declared.rows.Standing.{Standing}
use Rattle.register.specs.declared.rows.Standing.TheVariants.{Live, Cancelled}

-- k bytes that write the number m, least first
abbrev pub little_bytes : ℕ → ℕ → List ℕ
little_bytes zero m = []
little_bytes (suc k) m = m % 256 ∷ little_bytes k (m / 256)

-- used row k keeps the value: `sets` stores bytes one after the other from a place on
unfoldable pub restated : List ℕ → ℕ → List ℕ → List ℕ
restated register k value = cond (is_used register k) (sets register (place (day_width register) k + 73) value) register

-- a row more, and the used count one more
unfoldable pub appended : List ℕ → List ℕ → List ℕ → List ℕ
appended register pair value =
    cond
    (framed register && not (full register))
    (sets (sets register (place (day_width register) (used register)) (pair ++ value)) 5 (little_bytes 4 (used register + 1)))
    register

-- the pair's row keeps the value, in place or as the next row
unfoldable pub put : List ℕ → Option ℕ → List ℕ → List ℕ → List ℕ
put register (Some k) pair value = restated register k value
put register None pair value = appended register pair value

-- what a row keeps of its pair: the state, and the day in the bytes that the row has for it
abbrev pub value_of : List ℕ → Standing → ℕ → List ℕ
value_of register standing day = state_byte standing ∷ little_bytes (day_width register) day

-- the pair is set live, on that day
abbrev pub set_live : List ℕ → Option ℕ → List ℕ → ℕ → List ℕ
set_live register found pair day = put register found pair (value_of register Live day)

-- the pair is set cancelled on that day, if it has a row
unfoldable pub set_cancelled : List ℕ → Option ℕ → ℕ → List ℕ
set_cancelled register (Some k) day = restated register k (value_of register Cancelled day)
set_cancelled register None day = register
