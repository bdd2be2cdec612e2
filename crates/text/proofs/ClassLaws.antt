-- Bytes of a class, from a place on.
use mathlib.Core.Path.{◌≡◌, ◌∙◌, sym, refl}
use mathlib.Core.Bool.{Bool, true, ◌&&◌, and-true, and_assoc}
use mathlib.Core.List.{List}
use Prim.Native.Nat.{ℕ, ◌+◌, ◌≤◌, ◌<◌}
use native.Mathlib.Omega.{arith}
use lib.ListN.{length, get_or, drop, drop_of_length-le}
use Rattle.text.specs.declared.classes.Class.{Class}
use Rattle.text.specs.Class.{in_class, all_of}
use Rattle.text.proofs.Lists.{rest_at}

-- `good` says whether the bytes before place i are of the class
pub record AllSoFar (k : Class) (s : List ℕ) (good : Bool) (i : ℕ) : Type 0 where
  pub within : i ≤ length s
  pub left : all_of k s ≡ (good && all_of k (drop i s))

pub all_start : {k : Class} {s : List ℕ} → AllSoFar k s true 0
all_start = record { within = omega arith; left = refl }

module _ {k : Class} {s : List ℕ} {good : Bool} {i : ℕ} (so_far : AllSoFar k s good i) where
  pub all_on : {t : Bool} → i < length s → t ≡ in_class k (get_or s i 0) → AllSoFar k s (good && t) (i + 1)
  unfolding all_of
  all_on {t} h e =
      record {
        within = omega arith;
        left = so_far.left ∙ rw (rest_at 0 s i h, e) (sym (and_assoc good (in_class k (get_or s i 0)) (all_of k (drop (i + 1) s))));
      }

  pub all_end : length s ≤ i → good ≡ all_of k s
  unfolding all_of
  all_end h = sym (so_far.left ∙ rw (drop_of_length-le s h) (and-true good))
