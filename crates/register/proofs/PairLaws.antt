-- The 73 bytes of a pair: how they are written, and that they stand for that pair only.
use mathlib.Core.Path.{◌≡◌, ◌∙◌, sym, ap}
use mathlib.Core.Bool.{true, false, ◌&&◌, and-true}
use mathlib.Core.List.{List, ◌∷◌, ◌++◌, append-nil, append_assoc}
use Prim.Native.Nat.{ℕ, suc, ◌+◌, ◌-◌, ◌≤◌, min}
use native.Mathlib.Nat.{min-eq_left}
use native.Mathlib.Omega.{arith}
use borrow.Author.Tests.{eqb-true}
use lib.Dec.{eqb, lit≤}
use lib.ListN.{length, take, set, replicate, length-append, length-take, length-replicate}
use lib.Seq.{sets, sets-eq, length-sets, take_all, take-append-add}
use Rattle.text.specs.Word.{starts_with, same}
use Rattle.text.proofs.Bools.{and_left, and_right, by_test}
use Rattle.text.proofs.WordLaws.{same_is}
use Rattle.register.specs.Pair.{filled, pair_bytes}
use Rattle.register.proofs.Stores.{take_replicate, drop_replicate, sets_front, drop_sets_past}
use Rattle.register.proofs.Words.{same_refl, same_true, same_append}

pub filled_length : (w : ℕ) (s : List ℕ) → length (filled w s) ≡ w
unfolding filled
filled_length w s = simp (length-append, length-take, length-replicate) (omega arith)

pub pair_length : (entity reference : List ℕ) → length (pair_bytes entity reference) ≡ 73
unfolding pair_bytes
pair_length entity reference = simp length-append (omega (arith, filled_length 20 entity, filled_length 52 reference))

-- part, no longer than w, stored over the front of m zeros, and zeros behind it up to w
front : (w m : ℕ) (part : List ℕ) → length part ≤ w → w ≤ m → take w (sets (replicate m 0) 0 part) ≡ part ++ replicate (w - length part) 0
front w m part short h =
    let room : length part ≤ length (replicate {A = ℕ} m 0) = simp length-replicate (omega arith) in
    let cut : w ≡ length part + (w - length part) = omega arith in
    let few : w - length part ≤ m - length part = omega arith in
    ap (take w) (sets_front (replicate m 0) part room ∙ ap (λ l. part ++ l) (drop_replicate (length part) m 0))
    ∙ ap (λ k. take k (part ++ replicate (m - length part) 0)) cut
    ∙ take-append-add part (replicate (m - length part) 0) (w - length part)
    ∙ ap (λ l. part ++ l) (take_replicate (w - length part) (m - length part) 0 few)

-- the three parts of a pair stored over 73 zeros
three_parts :
    (e r : List ℕ) → length e ≤ 20 → length r ≤ 52
    → sets (set (sets (replicate 73 0) 0 e) 20 (length r)) 21 r
    ≡ (e ++ replicate (20 - length e) 0) ++ (length r ∷ (r ++ replicate (52 - length r) 0))
three_parts e r he hr =
    let fits : 20 + suc (length r) ≤ length (sets (replicate 73 0) 0 e) = simp (length-sets, length-replicate) (omega arith) in
    let past : 0 + length e ≤ 20 + suc (length r) = omega arith in
    let left : 73 - (20 + suc (length r)) ≡ 52 - length r = omega arith in
    sets-eq (length r ∷ r) (sets (replicate 73 0) 0 e) 20 fits
    ∙ (λ i.
    front 20 73 e he (lit≤ tt) i
    ++ (length r ∷ r)
    ++ (drop_sets_past (20 + suc (length r)) (replicate 73 0) 0 e past ∙ drop_replicate (20 + suc (length r)) 73 0 ∙ ap (λ k. replicate k 0) left) i)
    ∙ append_assoc (e ++ replicate (20 - length e) 0) (length r ∷ r) (replicate (52 - length r) 0)

filled_cut : (w : ℕ) (s : List ℕ) → take w s ++ replicate (w - length (take w s)) 0 ≡ filled w s
unfolding filled
filled_cut w s =
    let e : w - length (take w s) ≡ w - length s = simp length-take (omega arith) in
    ap (λ k. take w s ++ replicate k 0) e

-- what is cut to w bytes has no more
pub cut_short : (w : ℕ) (s : List ℕ) {r : List ℕ} → r ≡ take w s → length r ≤ w
cut_short w s e = rw e (simp length-take (omega arith))

-- zeros with the three parts of a pair stored over them are the pair's bytes
pub pair_built :
    (entity reference : List ℕ) {e r one two : List ℕ} → e ≡ take 20 entity → r ≡ take 52 reference → one ≡ sets (replicate 73 0) 0 e
    → two ≡ sets (set one 20 (length r)) 21 r → two ≡ pair_bytes entity reference
unfolding pair_bytes
pair_built entity reference {e} {r} cut-e cut-r first second =
    let size : length (take 52 reference) ≡ min (length reference) 52 = simp length-take (omega arith) in
    second
    ∙ (λ i. sets (set (first i) 20 (length r)) 21 r)
    ∙ three_parts e r (cut_short 20 entity cut-e) (cut_short 52 reference cut-r)
    ∙ (λ i. (cut-e i ++ replicate (20 - length (cut-e i)) 0) ++ (length (cut-r i) ∷ (cut-r i ++ replicate (52 - length (cut-r i)) 0)))
    ∙ (λ i. filled_cut 20 entity i ++ (size i ∷ filled_cut 52 reference i))

-- entity of 20 bytes, reference of 1 to 52
pub record Shaped (entity reference : List ℕ) : Type 0 where
  pub entity_length : length entity ≡ 20
  pub some : 1 ≤ length reference
  pub most : length reference ≤ 52

filled_whole : (w : ℕ) (s : List ℕ) → length s ≤ w → filled w s ≡ s ++ replicate (w - length s) 0
unfolding filled
filled_whole w s h = ap (λ l. l ++ replicate (w - length s) 0) (take_all w s h)

filled_exact : (w : ℕ) (s : List ℕ) → length s ≡ w → filled w s ≡ s
filled_exact w s h =
    let none : w - length s ≡ 0 = omega arith in
    filled_whole w s (omega arith) ∙ ap (λ k. s ++ replicate k 0) none ∙ append-nil s

other_lengths : (s t : List ℕ) → eqb (length t) (length s) ≡ false → same s t ≡ false
other_lengths s t h = sym (same_is s t) ∙ ap (λ b. b && starts_with s t) h

-- length byte and filled reference are those of one reference only
same_reference :
    (s t : List ℕ) → length s ≤ 52 → length t ≤ 52 → (eqb (length t) (length s) && same (filled 52 s) (filled 52 t)) ≡ same s t
same_reference s t hs ht =
    by_test
    (eqb (length t) (length s))
    (λ e.
    let n : length s ≡ length t = sym (eqb-true _ _ e) in
    let fill : replicate {A = ℕ} (52 - length t) 0 ≡ replicate (52 - length s) 0 = ap (λ k. replicate (52 - k) 0) (sym n) in
    rw (e, filled_whole 52 s hs, filled_whole 52 t ht, fill)
    (same_append s t (replicate (52 - length s) 0) (replicate (52 - length s) 0) n
    ∙ ap (λ b. same s t && b) (same_refl (replicate (52 - length s) 0))
    ∙ and-true (same s t)))
    (λ e. rw (e, other_lengths s t e))

-- two pairs of right shape have the same 73 bytes exactly if they are the same pair
pub same_key :
    {e r f q : List ℕ} → Shaped e r → Shaped f q → same (pair_bytes e r) (pair_bytes f q) ≡ (same e f && same r q)
unfolding pair_bytes same
same_key {e} {r} {f} {q} a b =
    let one : min (length r) 52 ≡ length r = min-eq_left a.most in
    let other : min (length q) 52 ≡ length q = min-eq_left b.most in
    let n : length e ≡ length f = a.entity_length ∙ sym b.entity_length in
    rw (filled_exact 20 e a.entity_length, filled_exact 20 f b.entity_length, one, other)
    (same_append e f (length r ∷ filled 52 r) (length q ∷ filled 52 q) n
    ∙ ap (λ x. same e f && x) (same_reference r q a.most b.most))

pub one_pair : {e r f q : List ℕ} → Shaped e r → Shaped f q → pair_bytes e r ≡ pair_bytes f q → (e ≡ f) × (r ≡ q)
one_pair {e} {r} {f} {q} a b h =
    let both : (same e f && same r q) ≡ true = sym (same_key a b) ∙ ap (λ s. same s (pair_bytes f q)) h ∙ same_refl (pair_bytes f q) in
    (sym (same_true e f (and_left (same e f) (same r q) both)), sym (same_true r q (and_right (same e f) (same r q) both)))
