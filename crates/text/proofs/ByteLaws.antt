-- Bytes that a function of the place makes, and the number that they write.
use mathlib.Core.Path.{◌≡◌, ◌∙◌, refl, ap}
use mathlib.Core.Logic.{◌≢◌}
use mathlib.Core.List.{List, map}
use Prim.Native.Nat.{ℕ, zero, suc, ◌+◌, ◌≤◌, ◌<◌}
use native.Mathlib.Omega.{arith}
use denote.Param.Members.{Mut}
use borrow.Author.Tests.{eqb-true, eqb-false}
use lib.Dec.{eqb}
use lib.ListN.{length, get_or, take, drop}
use lib.Seq.{get_or-drop, get_or-take, length-take-le}
use Rattle.text.proofs.Bools.{by_test}
use Rattle.std.specs.Array.{IsFromFnResult, IsFromFnResultFrom}
use Rattle.std.specs.Fn.{Called}
use Rattle.std.specs.Int.{w16, w32, w64, from_le_bytes}
use Rattle.std.specs.List.{range_with_len}
use Rattle.std.proofs.lemmas.List.FromFn.{fill_by_all}
use Rattle.text.specs.Number.{first_bytes, little_endian}

module _ {F : Type 0} (g : Mut F (ℕ × Unit {0}) ℕ) {f : F} (h : ℕ → ℕ) (each : (i y : ℕ) (q : F) → Called g f (i, tt) y q → (q ≡ f) × (y ≡ h i)) where
  made_from : (ys : List ℕ) (i n : ℕ) → IsFromFnResultFrom g f ys i n → (k : ℕ) → i ≤ k → k < i + n → get_or ys k 0 ≡ h k
  made_from ys i zero r k l m = absurd (omega arith)
  made_from ys i (suc n) r k l m =
      let is = each i r.1 r.0 r.3 in
      by_test
      (eqb i k)
      (λ t. rw (← eqb-true i k t) (r.2.1 0 ∙ is.1))
      (λ t. let other : i ≢ k = eqb-false i k t in made_from ys (i + 1) n (rw is.0 at r.4) k (omega arith) (omega arith))

  -- an array made by calls that leave the function as it is
  pub made_by : {ys : List ℕ} {n : ℕ} → IsFromFnResult g f ys n → ys ≡ map h (range_with_len 0 n)
  made_by {ys} {n} r = fill_by_all h ys n 0 r.long (λ k l. made_from ys 0 n r.each k (omega arith) (omega arith))

-- what a word's bytes write, each read at its place
abbrev ones : ℕ → List ℕ → List ℕ
ones zero t = t
ones (suc k) t = ones k (drop 1 t)

one_by_one : (k : ℕ) (t : List ℕ) → get_or (ones k t) 0 0 ≡ get_or t k 0
one_by_one zero t = refl
one_by_one (suc k) t = one_by_one k (drop 1 t) ∙ get_or-drop 1 t k 0 ∙ ap (λ j. get_or t j 0) (omega arith)

module _ (t : List ℕ) where
  pub two_read : from_le_bytes w16 (first_bytes 2 t) ≡ little_endian 2 t
  two_read = omega (arith, one_by_one 1 t)

  pub four_read : from_le_bytes w32 (first_bytes 4 t) ≡ little_endian 4 t
  four_read = omega (arith, one_by_one 1 t, one_by_one 2 t, one_by_one 3 t)

  pub eight_read : from_le_bytes w64 (first_bytes 8 t) ≡ little_endian 8 t
  eight_read = omega (arith, one_by_one 1 t, one_by_one 2 t, one_by_one 3 t, one_by_one 4 t, one_by_one 5 t, one_by_one 6 t, one_by_one 7 t)

  -- bytes that are all there
  pub first_all : (n : ℕ) → n ≤ length t → take n t ≡ first_bytes n t
  first_all n h = fill_by_all (λ i. get_or t i 0) (take n t) n 0 (length-take-le n t h) (λ k l. get_or-take n t k 0 l)
