-- A buffer that is filled from its start: one byte more, nothing more, one addition after another.
use mathlib.Core.Path.{◌≡◌, ◌∙◌, refl, sym, ap}
use mathlib.Core.List.{List, [], ◌∷◌, ◌++◌, append-nil, append_assoc}
use Prim.Native.Nat.{ℕ, zero, suc, ◌+◌, ◌≤◌, ◌<◌, min}
use native.Mathlib.Numerals.{add-one}
use native.Mathlib.Omega.{arith}
use lib.Dec.{leb}
use lib.ListN.{length, take, drop, get_or, set, length-append, length-take, length-drop, take-append-drop, drop_of_length-le}
use lib.Seq.{take_all, take-suc, take_at, take-append_seam, drop-append-add, drop-drop, set_split, append_snoc}
use borrow.Author.Tests.{leb-true, leb-false}
use Rattle.text.proofs.Bools.{by_test}
use Rattle.text.proofs.Determined.{same_both}
use Rattle.buffer.specs.Kept.{Kept}

pub keep_in : (buffer : List ℕ) (kept b : ℕ) → kept < length buffer → Kept buffer kept (b ∷ []) (set buffer kept b) (kept + 1)
keep_in buffer kept b h =
    record {
      counts = omega arith;
      holds =
          set_split buffer kept b h
          ∙ sym (append_snoc (take kept buffer) b (drop (suc kept) buffer))
          ∙ (λ i. sym (take_all (length buffer) (take kept buffer ++ (b ∷ [])) (rw (length-append, length-take) (omega arith))) i ++ drop (sym (add-one kept) i) buffer);
    }

pub keep_out : (buffer : List ℕ) (kept : ℕ) (more : List ℕ) → length buffer ≤ kept → Kept buffer kept more buffer kept
keep_out buffer kept more h =
    record {
      counts = omega arith;
      holds =
          let past : length buffer ≤ kept + length more = omega arith in
          rw (take_all kept buffer h, take-append_seam buffer more, drop_of_length-le buffer past) (sym (append-nil buffer));
    }

pub keep_none : (buffer : List ℕ) (kept : ℕ) → Kept buffer kept [] buffer kept
keep_none buffer kept =
    record {
      counts = omega arith;
      holds =
          let same : kept + 0 ≡ kept = omega arith in
          rw (append-nil, same, take_all (length buffer) (take kept buffer) (rw length-take (omega arith))) (sym (take-append-drop kept buffer));
    }

pub take_again : (r : ℕ) (xs ys : List ℕ) → take r (take r xs ++ ys) ≡ take r (xs ++ ys)
take_again zero xs ys = refl
take_again (suc r) [] ys = refl
take_again (suc r) (x ∷ xs) ys = rw (take_again r xs ys)

module _ {before more after : List ℕ} {kept n : ℕ} (p : Kept before kept more after n) where
  pub keep_room : length after ≡ length before
  keep_room = ap length p.holds ∙ simp (length-append, length-take, length-drop) (omega arith)

  front_length : length (take (length before) (take kept before ++ more)) ≡ min (length before) (kept + length more)
  front_length = simp (length-append, length-take) (omega arith)

  -- the bytes kept now
  pub keep_front : take n after ≡ take (length before) (take kept before ++ more)
  keep_front =
      by_test (leb kept (length before))
      (λ t.
      let h : kept ≤ length before = leb-true kept (length before) t in
      ap (take n) p.holds
      ∙ take_at (take (length before) (take kept before ++ more)) (drop (kept + length more) before) n (omega (arith, front_length, p.counts)))
      (λ t.
      let h : length before < kept = leb-false kept (length before) t in
      let past : length before ≤ kept + length more = omega arith in
      take_all n after (omega (arith, keep_room, p.counts))
      ∙ p.holds
      ∙ rw (drop_of_length-le before past) (append-nil (take (length before) (take kept before ++ more))))

  -- the bytes behind them
  keep_back : (m : ℕ) → drop (n + m) after ≡ drop (kept + length more + m) before
  keep_back m =
      by_test (leb (kept + length more) (length before))
      (λ t.
      let h : kept + length more ≤ length before = leb-true (kept + length more) (length before) t in
      let e : n + m ≡ length (take (length before) (take kept before ++ more)) + m = omega (arith, front_length, p.counts) in
      (λ i. drop (e i) (p.holds i))
      ∙ drop-append-add (take (length before) (take kept before ++ more)) (drop (kept + length more) before) m
      ∙ drop-drop m (kept + length more) before)
      (λ t.
      let h : length before < kept + length more = leb-false (kept + length more) (length before) t in
      let past : length before ≤ kept + length more + m = omega arith in
      let past' : length after ≤ n + m = omega (arith, keep_room, p.counts) in
      drop_of_length-le after past' ∙ sym (drop_of_length-le before past))

pub keep_then : {before more after more' after' : List ℕ} {kept n n' : ℕ} → Kept before kept more after n → Kept after n more' after' n'
    → Kept before kept (more ++ more') after' n'
keep_then {before} {more} {after} {more'} {after'} {kept} {n} p q =
    let size : kept + length (more ++ more') ≡ kept + length more + length more' = rw length-append (omega arith) in
    record {
      counts = omega (arith, p.counts, q.counts, keep_room p, size);
      holds =
          q.holds
          ∙ (λ i. take (keep_room p i) (keep_front p i ++ more') ++ keep_back p (length more') i)
          ∙ (λ i. take_again (length before) (take kept before ++ more) more' i ++ drop (sym size i) before)
          ∙ ap (λ (l : List ℕ). take (length before) l ++ drop (kept + length (more ++ more')) before) (append_assoc (take kept before) more more');
    }

-- what is written of a list, piece by piece
pub record Joins (f : List ℕ → List ℕ) : Type 0 where
  pub none : f [] ≡ []
  pub joined : (xs ys : List ℕ) → f (xs ++ ys) ≡ f xs ++ f ys

pub bytes_join : Joins (λ s. s)
bytes_join = record { none = refl; joined = λ xs ys. refl }

-- the first i elements of xs are written behind what a buffer kept before
pub record KeptSoFar (f : List ℕ → List ℕ) (xs before : List ℕ) (kept : ℕ) (buffer : List ℕ) (n i : ℕ) : Type 0 where
  pub within : i ≤ length xs
  pub so_far : Kept before kept (f (take i xs)) buffer n

module _ {f : List ℕ → List ℕ} (j : Joins f) {xs before : List ℕ} {kept : ℕ} where
  pub so_far_start : KeptSoFar f xs before kept before kept 0
  so_far_start = record { within = omega arith; so_far = rw j.none (keep_none before kept) }

  module _ {buffer : List ℕ} {n i : ℕ} (p : KeptSoFar f xs before kept buffer n i) where
    pub so_far_on : {buffer' : List ℕ} {n' : ℕ} → i < length xs → Kept buffer n (f (get_or xs i 0 ∷ [])) buffer' n'
        → KeptSoFar f xs before kept buffer' n' (i + 1)
    so_far_on h q =
        let e : f (take (i + 1) xs) ≡ f (take i xs) ++ f (get_or xs i 0 ∷ []) = rw (add-one, take-suc xs i 0) (j.joined (take i xs) (get_or xs i 0 ∷ [])) in
        record { within = omega arith; so_far = rw e (keep_then p.so_far q) }

    pub so_far_end : length xs ≤ i → Kept before kept (f xs) buffer n
    so_far_end h = rw (take_all i xs h) at p.so_far

-- two results of one keeping coincide
pub kept_once : {before more after after' : List ℕ} {kept n n' : ℕ} → Kept before kept more after n → Kept before kept more after' n' → (n ≡ n') × (after ≡ after')
kept_once p q = (same_both p.counts q.counts, same_both p.holds q.holds)
