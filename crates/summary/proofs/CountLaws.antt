-- A line counted under its heading and by its codes.
use mathlib.Core.Path.{◌≡◌, refl}
use mathlib.Core.Bool.{Bool, true, false, ◌||◌}
use mathlib.Core.List.{List}
use Prim.Native.Nat.{ℕ}
use Rattle.verdict.specs.Bits.{flags_in}
use Rattle.summary.specs.declared.Kind.TheVariants.{New, Cancelled, Found, Full, Refused}
use Rattle.summary.specs.declared.Line.{Line}
use Rattle.summary.specs.declared.Record.{Record}
use Rattle.summary.specs.declared.Tally.{Tally}
use Rattle.summary.specs.Counting.{up, stuck, Raising, added, stuck_in, counted_of}

or_none : (b : Bool) → (b || false) ≡ b
or_none true = refl
or_none false = refl

-- the counter under the line's heading rises, and no other
module _ (r : Record) (l : Line) {codes : List ℕ} {some : Bool} (by_codes : Raising (flags_in l.words) r.codes some codes) {n : ℕ} {at_top : Bool} where
  pub under_accepted : l.kind ≡ New → n ≡ up true r.accepted → at_top ≡ stuck true r.accepted
      → ◌≡◌ {A = Tally} (record { after = record { entity = r.entity; accepted = n; cancelled = r.cancelled; found = r.found; full = r.full; refused = r.refused; codes = codes }; stuck = at_top || some }) (counted_of r l)
  unfolding added stuck_in up stuck
  under_accepted e risen told = rw (e, or_none, or_none, or_none, or_none) (λ i. record { after = record { entity = r.entity; accepted = risen i; cancelled = r.cancelled; found = r.found; full = r.full; refused = r.refused; codes = by_codes.risen i }; stuck = told i || by_codes.told i })

  pub under_cancelled : l.kind ≡ Cancelled → n ≡ up true r.cancelled → at_top ≡ stuck true r.cancelled
      → ◌≡◌ {A = Tally} (record { after = record { entity = r.entity; accepted = r.accepted; cancelled = n; found = r.found; full = r.full; refused = r.refused; codes = codes }; stuck = at_top || some }) (counted_of r l)
  unfolding added stuck_in up stuck
  under_cancelled e risen told = rw (e, or_none, or_none, or_none) (λ i. record { after = record { entity = r.entity; accepted = r.accepted; cancelled = risen i; found = r.found; full = r.full; refused = r.refused; codes = by_codes.risen i }; stuck = told i || by_codes.told i })

  pub under_found : l.kind ≡ Found → n ≡ up true r.found → at_top ≡ stuck true r.found
      → ◌≡◌ {A = Tally} (record { after = record { entity = r.entity; accepted = r.accepted; cancelled = r.cancelled; found = n; full = r.full; refused = r.refused; codes = codes }; stuck = at_top || some }) (counted_of r l)
  unfolding added stuck_in up stuck
  under_found e risen told = rw (e, or_none, or_none) (λ i. record { after = record { entity = r.entity; accepted = r.accepted; cancelled = r.cancelled; found = risen i; full = r.full; refused = r.refused; codes = by_codes.risen i }; stuck = told i || by_codes.told i })

  pub under_full : l.kind ≡ Full → n ≡ up true r.full → at_top ≡ stuck true r.full
      → ◌≡◌ {A = Tally} (record { after = record { entity = r.entity; accepted = r.accepted; cancelled = r.cancelled; found = r.found; full = n; refused = r.refused; codes = codes }; stuck = at_top || some }) (counted_of r l)
  unfolding added stuck_in up stuck
  under_full e risen told = rw (e, or_none) (λ i. record { after = record { entity = r.entity; accepted = r.accepted; cancelled = r.cancelled; found = r.found; full = risen i; refused = r.refused; codes = by_codes.risen i }; stuck = told i || by_codes.told i })

  pub under_refused : l.kind ≡ Refused → n ≡ up true r.refused → at_top ≡ stuck true r.refused
      → ◌≡◌ {A = Tally} (record { after = record { entity = r.entity; accepted = r.accepted; cancelled = r.cancelled; found = r.found; full = r.full; refused = n; codes = codes }; stuck = at_top || some }) (counted_of r l)
  unfolding added stuck_in up stuck
  under_refused e risen told = rw e (λ i. record { after = record { entity = r.entity; accepted = r.accepted; cancelled = r.cancelled; found = r.found; full = r.full; refused = risen i; codes = by_codes.risen i }; stuck = told i || by_codes.told i })
