-- Bytes stored one after the other from a place on, and zeros.
use mathlib.Core.Path.{◌≡◌, ◌∙◌, refl, sym, ap}
use mathlib.Core.List.{List, [], ◌∷◌, ◌++◌, append_assoc}
use Prim.Native.Nat.{ℕ, zero, suc, ◌+◌, ◌-◌, ◌≤◌}
use native.Mathlib.Nat.{add-zero, zero-add, suc-add, sub-zero, zero-sub, suc-sub-suc}
use native.Mathlib.Omega.{arith}
use borrow.Rule.Slice.PartMut.{put_mid}
use lib.ListN.{length, take, drop, set, replicate}
use lib.Seq.{sets, sets-eq, drop-drop, take-set-le, drop-set-add, drop-set-lt, take-nil}

module _ {A : Type 0} where
  pub sets_append : (l : List A) (i : ℕ) (vs ws : List A) → sets l i (vs ++ ws) ≡ sets (sets l i vs) (i + length vs) ws
  sets_append l i [] ws = rw (add-zero i)
  sets_append l i (v ∷ vs) ws =
      let e : suc i + length vs ≡ i + suc (length vs) = omega arith in
      sets_append (set l i v) (suc i) vs ws ∙ ap (λ k. sets (sets (set l i v) (suc i) vs) k ws) e

  -- what stands before the place stays
  pub take_sets : (k : ℕ) (l : List A) (i : ℕ) (vs : List A) → k ≤ i → take k (sets l i vs) ≡ take k l
  take_sets k l i [] h = refl
  take_sets k l i (v ∷ vs) h = take_sets k (set l i v) (suc i) vs (omega arith) ∙ take-set-le k l i v h

  -- and what stands behind the last byte stored
  pub drop_sets_past : (k : ℕ) (l : List A) (i : ℕ) (vs : List A) → i + length vs ≤ k → drop k (sets l i vs) ≡ drop k l
  drop_sets_past k l i [] h = refl
  drop_sets_past k l i (v ∷ vs) h = drop_sets_past k (set l i v) (suc i) vs (omega arith) ∙ drop-set-lt k l i v (omega arith)

  -- a store further on is one in what stands from there
  pub drop_sets_add : (k : ℕ) (l : List A) (i : ℕ) (vs : List A) → drop k (sets l (k + i) vs) ≡ sets (drop k l) i vs
  drop_sets_add k l i [] = refl
  drop_sets_add k l i (v ∷ vs) =
      let e : suc (k + i) ≡ k + suc i = omega arith in
      ap (λ j. drop k (sets (set l (k + i) v) j vs)) e
      ∙ drop_sets_add k (set l (k + i) v) (suc i) vs
      ∙ ap (λ m. sets m (suc i) vs) (drop-set-add k l i v)

  -- bytes stored at the front, of a list that has room for them
  pub sets_front : (l vs : List A) → length vs ≤ length l → sets l 0 vs ≡ vs ++ drop (length vs) l
  sets_front l vs h = sets-eq vs l 0 (rw (zero-add (length vs)) h) ∙ rw (zero-add (length vs))

  pub drop_take : (i k : ℕ) (l : List A) → drop i (take (i + k) l) ≡ take k (drop i l)
  drop_take zero k l = rw (zero-add k)
  drop_take (suc i) k [] = rw (suc-add i k) (sym (take-nil k))
  drop_take (suc i) k (x ∷ l) = rw (suc-add i k) (drop_take i k l)

  pub drop_replicate : (i k : ℕ) (a : A) → drop i (replicate k a) ≡ replicate (k - i) a
  drop_replicate zero k a = rw (sub-zero k)
  drop_replicate (suc i) zero a = rw (zero-sub (suc i))
  drop_replicate (suc i) (suc k) a = rw (suc-sub-suc k i) (drop_replicate i k a)

  pub take_replicate : (i k : ℕ) (a : A) → i ≤ k → take i (replicate k a) ≡ replicate i a
  take_replicate zero k a h = refl
  take_replicate (suc i) zero a h = absurd (omega arith)
  take_replicate (suc i) (suc k) a h = ap (λ l. a ∷ l) (take_replicate i k a (omega arith))

  -- what a write to the bytes from `at` up to `end` leaves
  pub stored : (l part : List A) (at end : ℕ) → end ≡ at + length part → end ≤ length l → put_mid at (end - at) l part ≡ sets l at part
  stored l part at end e h =
      let k : end - at ≡ length part = omega arith in
      let h' : at + length part ≤ length l = omega arith in
      rw k ((λ i. take at l ++ (part ++ drop-drop (length part) at l i)) ∙ sym (sets-eq part l at h' ∙ append_assoc (take at l) part (drop (at + length part) l)))
