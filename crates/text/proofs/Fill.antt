-- An array that a loop fills from the front with the elements of a list.
use mathlib.Core.Path.{◌≡◌, ◌∙◌, refl, sym}
use mathlib.Core.List.{List}
use Prim.Native.Nat.{ℕ, ◌+◌, ◌≤◌, ◌<◌}
use native.Mathlib.Numerals.{add-one}
use native.Mathlib.Omega.{arith}
use lib.ListN.{length, get_or, take, set, length-set}
use lib.Seq.{take-suc, take-suc-set, take_all}

module _ {A : Type 0} where
  -- the first i elements are the list's
  pub record Begun (want out : List A) (i : ℕ) : Type 0 where
    pub length_is : length out ≡ length want
    pub front : take i out ≡ take i want

  pub begun_none : {want out : List A} → length out ≡ length want → Begun want out 0
  begun_none h = record { length_is = h; front = refl }

  module _ {want out : List A} {i : ℕ} (begun : Begun want out i) where
    pub begun_more : (d a : A) → i < length want → a ≡ get_or want i d → Begun want (set out i a) (i + 1)
    begun_more d a h e = record { length_is = length-set out i a ∙ begun.length_is; front = rw add-one (take-suc-set out i a (omega arith) ∙ rw (begun.front, e) (sym (take-suc want i d h))) }

    pub begun_all : length want ≤ i → out ≡ want
    begun_all h = sym (take_all i out (omega arith)) ∙ begun.front ∙ take_all i want h
