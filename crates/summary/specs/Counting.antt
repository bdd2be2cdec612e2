-- What one line adds to a record. Every counter is 32 bits wide, and stays at its top.
use Rattle.std.specs.Prelude.{ℕ, ◌+◌, ◌≡◌, Bool, false, cond, not, ◌&&◌, ◌||◌, List, [], ◌∷◌, eqb, ltb, get_or, replicate}
use Rattle.verdict.specs.Codes.{code_count}
use Rattle.verdict.specs.Bits.{flags_in}
use Rattle.summary.specs.declared.Kind.{Kind}
use Rattle.summary.specs.declared.Kind.TheVariants.{New, Cancelled, Found, Full, Refused}
use Rattle.summary.specs.declared.Line.{Line}
use Rattle.summary.specs.declared.Record.{Record}
use Rattle.summary.specs.declared.Tally.{Tally}

abbrev pub top : ℕ
top = 4294967295

-- a counter, once a line is counted that it counts if `b` holds
unfoldable pub up : Bool → ℕ → ℕ
up b n = cond (b && ltb n top) (n + 1) n

-- it should have risen, and was at its top
unfoldable pub stuck : Bool → ℕ → Bool
stuck b n = b && not (ltb n top)

-- a row of counters, with a flag for each
unfoldable pub raised : List Bool → List ℕ → List ℕ
raised [] counters = counters
raised (flag ∷ flags) [] = []
raised (flag ∷ flags) (n ∷ counters) = up flag n ∷ raised flags counters

unfoldable pub any_stuck : List Bool → List ℕ → Bool
any_stuck [] counters = false
any_stuck (flag ∷ flags) [] = false
any_stuck (flag ∷ flags) (n ∷ counters) = stuck flag n || any_stuck flags counters

-- what a call leaves of the counters, and says
pub record Raising (flags : List Bool) (before : List ℕ) (says : Bool) (after : List ℕ) : Type 0 where
  pub told : says ≡ any_stuck flags before
  pub risen : after ≡ raised flags before

-- the headings under which a line counts: accepted as NEW, accepted as CXL, with findings, refused by 11, refused by 1 to 10
abbrev pub heading : Kind → ℕ
heading New = 0
heading Cancelled = 1
heading Found = 2
heading Full = 3
heading Refused = 4

abbrev pub under : ℕ → Line → Bool
under k l = eqb (heading l.kind) k

unfoldable pub added : Record → Line → Record
added r l =
    record {
      entity = r.entity;
      accepted = up (under 0 l) r.accepted;
      cancelled = up (under 1 l) r.cancelled;
      found = up (under 2 l) r.found;
      full = up (under 3 l) r.full;
      refused = up (under 4 l) r.refused;
      codes = raised (flags_in l.words) r.codes;
    }

unfoldable pub stuck_in : Record → Line → Bool
stuck_in r l =
    stuck (under 0 l) r.accepted
    || stuck (under 1 l) r.cancelled
    || stuck (under 2 l) r.found
    || stuck (under 3 l) r.full
    || stuck (under 4 l) r.refused
    || any_stuck (flags_in l.words) r.codes

abbrev pub counted_of : Record → Line → Tally
counted_of r l = record { after = added r l; stuck = stuck_in r l }

-- an entity that is none: its first byte is 0. A record of it is free
abbrev pub blank : List ℕ → Bool
blank e = eqb (get_or e 0 0) 0

-- a record that an entity takes
unfoldable pub fresh : List ℕ → Record
fresh e = record { entity = e; accepted = 0; cancelled = 0; found = 0; full = 0; refused = 0; codes = replicate code_count 0 }

-- a free record is taken, and the line counted
unfoldable pub entered_of : Record → Line → Tally
entered_of r l = cond (blank r.entity) (counted_of (fresh l.entity) l) (counted_of r l)
