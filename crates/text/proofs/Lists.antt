-- A list from a place on, as loops that read a slice need it.
use mathlib.Core.Path.{◌≡◌}
use mathlib.Core.List.{List, ◌∷◌}
use Prim.Native.Nat.{ℕ, ◌+◌, ◌-◌, ◌<◌}
use native.Mathlib.Numerals.{add-one}
use native.Mathlib.Omega.{arith}
use lib.ListN.{length, get_or, take, drop, length-drop}
use lib.Seq.{drop-cons, take_all}

module _ {A : Type 0} where
  -- the element at a place, and what follows it
  pub rest_at : (d : A) (s : List A) (i : ℕ) → i < length s → drop i s ≡ get_or s i d ∷ drop (i + 1) s
  rest_at d s i h = rw (add-one, drop-cons s i d)

  -- `&s[at..]` as a part up to the end
  pub part_to_end : (at : ℕ) (s : List A) → take (length s - at) (drop at s) ≡ drop at s
  part_to_end at s = take_all (length s - at) (drop at s) (rw length-drop (omega arith))
