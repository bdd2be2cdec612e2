-- The double-add-double check, read from the left.
use mathlib.Core.Path.{◌≡◌, ◌∙◌, sym, refl, ap}
use mathlib.Core.Bool.{Bool, true, false, cond, not}
use mathlib.Core.List.{List, [], ◌∷◌, ◌++◌}
use Prim.Native.Nat.{ℕ, ◌+◌, ◌/◌, ◌%◌, ◌≤◌, ◌<◌}
use native.Mathlib.Nat.{add_assoc, add-zero, zero-add, mod-add-mod, mod-lt, mod-eq_of_lt}
use native.Mathlib.Omega.{arith}
use lib.Dec.{lit<}
use lib.ListN.{length, get_or, drop, drop_of_length-le}
use Rattle.text.proofs.Lists.{rest_at}
use Rattle.ident.specs.declared.isins.Sums.{Sums}
use Rattle.ident.specs.Written.{value_of, digits_of, written_digits}
use Rattle.ident.specs.Codes.{doubled, oddly, double_add_double}
use Rattle.ident.specs.Carried.{with_digit, with_digits}
use Rattle.ident.proofs.WrittenLaws.{one_digit, two_digits}

-- what is carried, and what the digits that follow add
abbrev total : Sums → List ℕ → ℕ
total x ds = (cond (oddly ds) x.twice x.plain + double_add_double ds) % 10

total_digit : (x : Sums) (d : ℕ) (ds : List ℕ) → total (with_digit x d) ds ≡ total x (d ∷ ds)
unfolding with_digit oddly double_add_double
total_digit x d ds = go (oddly ds)
  where
    go : (t : Bool)
        → (cond t ((x.plain + doubled d) % 10) ((x.twice + d) % 10) + double_add_double ds) % 10
        ≡ (cond (not t) x.twice x.plain + (cond t (doubled d) d + double_add_double ds)) % 10
    go true = mod-add-mod (x.plain + doubled d) 10 (double_add_double ds) ∙ rw (add_assoc x.plain (doubled d) (double_add_double ds))
    go false = mod-add-mod (x.twice + d) 10 (double_add_double ds) ∙ rw (add_assoc x.twice d (double_add_double ds))

total_digits : (x : Sums) (ds es : List ℕ) → total (with_digits x ds) es ≡ total x (ds ++ es)
unfolding with_digits
total_digits x [] es = refl
total_digits x (d ∷ ds) es = total_digits (with_digit x d) ds es ∙ total_digit x d (ds ++ es)

pub record Small (x : Sums) : Type 0 where
  pub plain_small : x.plain < 10
  pub twice_small : x.twice < 10

pub small_digit : (x : Sums) (d : ℕ) → Small (with_digit x d)
unfolding with_digit
small_digit x d = record { plain_small = mod-lt (x.twice + d) (lit< tt); twice_small = mod-lt (x.plain + doubled d) (lit< tt) }

small_digits : (x : Sums) (ds : List ℕ) → Small x → Small (with_digits x ds)
unfolding with_digits
small_digits x [] h = h
small_digits x (d ∷ ds) h = small_digits (with_digit x d) ds (small_digit x d)

-- the digits of one character
module _ (x : Sums) (v : ℕ) where
  pub with_one : {r : Sums} → v < 10 → r ≡ with_digit x v → r ≡ with_digits x (digits_of v)
  unfolding with_digits
  with_one h e = e ∙ rw (one_digit v h)

  pub with_two : {y r : Sums} → 10 ≤ v → y ≡ with_digit x (v / 10) → r ≡ with_digit y (v % 10) → r ≡ with_digits x (digits_of v)
  unfolding with_digits
  with_two h e f = f ∙ rw (e, two_digits v h)

-- x is what the characters before place i make
pub record SummedSoFar (s : List ℕ) (x : Sums) (i : ℕ) : Type 0 where
  pub within : i ≤ length s
  pub small : Small x
  pub left : total x (written_digits (drop i s)) ≡ double_add_double (written_digits s) % 10

pub summed_start : {s : List ℕ} → SummedSoFar s (record { plain = 0; twice = 0 }) 0
summed_start {s} = record { within = omega arith; small = record { plain_small = omega arith; twice_small = omega arith }; left = go (oddly (written_digits s)) }
  where
    go : (t : Bool) → (cond t 0 0 + double_add_double (written_digits s)) % 10 ≡ double_add_double (written_digits s) % 10
    go true = rw zero-add
    go false = rw zero-add

module _ {s : List ℕ} {x : Sums} {i : ℕ} (so_far : SummedSoFar s x i) where
  pub summed_on : {v : ℕ} {y : Sums} → i < length s → v ≡ value_of (get_or s i 0) → y ≡ with_digits x (digits_of v) → SummedSoFar s y (i + 1)
  unfolding written_digits
  summed_on {v} {y} h e f =
      let ds : List ℕ = digits_of (value_of (get_or s i 0)) in
      let on : List ℕ = written_digits (drop (i + 1) s) in
      record {
        within = omega arith;
        small = rw f (small_digits x (digits_of v) so_far.small);
        left =
            ap (λ (z : Sums). total z on) (f ∙ ap (λ (n : ℕ). with_digits x (digits_of n)) e)
            ∙ total_digits x ds on
            ∙ rw (rest_at 0 s i h) at so_far.left;
      }

  pub summed_end : length s ≤ i → x.plain ≡ double_add_double (written_digits s) % 10
  unfolding written_digits oddly double_add_double
  summed_end h = sym (mod-eq_of_lt so_far.small.plain_small) ∙ rw (drop_of_length-le s h, add-zero) at so_far.left
