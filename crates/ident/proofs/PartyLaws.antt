-- The party that a cell names, where its identifier is well formed and where not.
use mathlib.Core.Path.{◌≡◌, sym}
use mathlib.Core.Bool.{Bool, true, false, not, ◌&&◌, ◌||◌}
use mathlib.Core.List.{List}
use Prim.Native.Nat.{ℕ}
use Rattle.ident.specs.declared.parties.Allowed.{Allowed}
use Rattle.ident.specs.declared.parties.Identifier.{Identifier}
use Rattle.ident.specs.declared.parties.Identifier.TheVariants.{Malformed}
use Rattle.ident.specs.declared.parties.Party.{Party}
use Rattle.ident.specs.Party.{named, allows, part_of, part_right, is_person, person_shaped, well_formed, identifier_of, party_with, party_of}

abbrev none : Party
none = record { identifier = Malformed; shaped = false }

module _ (a : Allowed) (s : List ℕ) {k : Identifier} {part : List ℕ} (name : k ≡ named s) (at : part ≡ part_of k s) where
  party_none : well_formed a k part ≡ false → none ≡ party_of a s
  unfolding identifier_of party_with
  party_none e = rw (sym name, sym at, e)

  pub party_wrong : (allows a k && part_right k part) ≡ false → none ≡ party_of a s
  unfolding well_formed
  party_wrong e = party_none (rw e)

  module _ (right : (allows a k && part_right k part) ≡ true) {h : Bool} (shape : h ≡ person_shaped k part) where
    pub party_unshaped : (not a.shaped || not (is_person k) || h) ≡ false → none ≡ party_of a s
    unfolding well_formed
    party_unshaped e = party_none (rw right (rw shape at e))

    pub party_right : (not a.shaped || not (is_person k) || h) ≡ true → record { identifier = k; shaped = h } ≡ party_of a s
    unfolding well_formed identifier_of party_with
    party_right e =
        let well : (allows a k && part_right k part && (not a.shaped || not (is_person k) || person_shaped k part)) ≡ true = rw right (rw shape at e) in
        rw (sym name, sym at, well, shape) (λ i. record { identifier = k; shaped = person_shaped k (at i) })
