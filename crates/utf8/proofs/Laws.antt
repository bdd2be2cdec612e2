-- Laws of the syntax: the row of a byte, and a text that is read up to a place.
use Prim.Native.Nat.{ℕ, zero, suc, ◌+◌, ◌≤◌, ◌<◌}
use mathlib.Core.Path.{◌≡◌, ◌∙◌, refl, ap}
use mathlib.Core.Bool.{Bool, true, ◌&&◌}
use mathlib.Core.List.{List, [], ◌∷◌}
use native.Mathlib.Omega.{arith}
use lib.Dec.{leb, ltb}
use lib.ListN.{length, take, drop, get_or, drop_of_length-le}
use borrow.Author.Tests.{le-leb, lt-leb, leb-true, ltb-true}
use Rattle.text.proofs.Bools.{and_left, and_right}
use Rattle.text.proofs.Lists.{rest_at}
use Rattle.text.specs.declared.classes.Class.TheVariants.{Printable}
use Rattle.text.specs.Class.{in_class, all_of}
use Rattle.utf8.specs.declared.Next.{Next}
use Rattle.utf8.specs.declared.Next.TheVariants.{First, Tail, Never}
use Rattle.std.proofs.Common.{Some}
use Rattle.utf8.specs.Abnf.{Row, upto, look, rows, within, after, starts, ended, counted, points, points_within}

pub inside : (least most b : ℕ) → least ≤ b → b ≤ most → within least most b ≡ true
inside least most b h g = rw (le-leb least b h, le-leb b most g)

-- all rows end below a byte; how far a row reaches; what may follow its bytes
abbrev pub below : ℕ → List Row → Bool
below low [] = true
below low (upto most next ∷ rows) = ltb most low && below low rows

abbrev pub reach : ℕ → List Row → ℕ
reach j [] = 0
reach zero (upto most next ∷ _) = most
reach (suc j) (row ∷ rows) = reach j rows

abbrev pub following : ℕ → List Row → Next
following j [] = Never
following zero (upto most next ∷ _) = next
following (suc j) (row ∷ rows) = following j rows

-- the row of a byte is the one that reaches it where all before end below it
pub hits : (j : ℕ) (rows : List Row) (low b : ℕ) → below low (take j rows) ≡ true → low ≤ b → b ≤ reach j rows → following j rows ≡ look rows b
unfolding look
hits zero [] low b e h g = refl
hits (suc j) [] low b e h g = refl
hits zero (upto most next ∷ rows) low b e h g = rw (le-leb b most g)
hits (suc j) (upto k x ∷ rows) low b e h g =
    rw (lt-leb b k (omega (arith, ltb-true k low (and_left (ltb k low) (below low (take j rows)) e))))
    (hits j rows low b (and_right (ltb k low) (below low (take j rows)) e) h g)

pub starts_small : (next : Next) → starts next ≤ 1
starts_small First = omega arith
starts_small (Tail least most more) = omega arith
starts_small Never = omega arith

-- i bytes of s are read, and what is counted from there on is the count of the whole
pub record ReadSoFar (s : List ℕ) (next : Next) (n i : ℕ) : Type 0 where
  pub reached : i ≤ length s
  pub few : n ≤ i
  pub rest : counted next n (drop i s) ≡ points s

pub read_start : {s : List ℕ} → ReadSoFar s First 0 0
unfolding points
read_start = record { reached = omega arith; few = omega arith; rest = refl }

module _ {s : List ℕ} {next : Next} {n i : ℕ} (c : ReadSoFar s next n i) where
  pub read_on : i < length s → ReadSoFar s (after next (get_or s i 0)) (n + starts next) (i + 1)
  unfolding counted
  read_on h = record { reached = omega arith; few = omega (arith, starts_small next); rest = rw (rest_at 0 s i h) at c.rest }

  pub read_end : length s ≤ i → ended next n ≡ points s
  unfolding counted
  read_end h = rw (drop_of_length-le s h) at c.rest

-- each byte of printable ASCII is a code point
plain_counted : (s : List ℕ) (n : ℕ) → all_of Printable s ≡ true → counted First n s ≡ Some (n + length s)
unfolding counted all_of
plain_counted [] n e = ap Some (let p : n ≡ n + 0 = omega arith in p)
plain_counted (b ∷ s) n e =
    let p = and_left (in_class Printable b) (all_of Printable s) e in
    rw (← hits 1 rows 0x20 b refl (leb-true 0x20 b (and_left _ (leb b 0x7E) p)) (leb-true b 0x7E (and_right (leb 0x20 b) _ p)))
    (plain_counted s (n + 1) (and_right (in_class Printable b) _ e) ∙ ap Some (let q : n + 1 + length s ≡ n + suc (length s) = omega arith in q))

pub plain_points : (s : List ℕ) → all_of Printable s ≡ true → points s ≡ Some (length s)
unfolding points
plain_points s e = plain_counted s 0 e ∙ ap Some (let p : 0 + length s ≡ length s = omega arith in p)

pub plain_within : (most : ℕ) (s : List ℕ) → all_of Printable s ≡ true → (leb 1 (length s) && leb (length s) most) ≡ points_within most s
unfolding points_within
plain_within most s e = rw (plain_points s e)
