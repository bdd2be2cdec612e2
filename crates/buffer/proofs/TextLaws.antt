-- Bytes kept one behind the other: nothing more, one addition after another, and what is kept of the whole.
use Rattle.std.proofs.Common.{get_or, ◌<◌, add-one, ℕ, zero, suc, ◌≡◌, ◌∙◌, ◌+◌, ◌-◌, ◌≤◌, List, [], ◌∷◌, ◌++◌, length, take, refl, sym, ap, arith, length-append, append-nil, append_assoc}
use lib.ListN.{length-take}
use lib.Seq.{take_all, take-suc}
use Rattle.buffer.specs.Text.{added}
use Rattle.buffer.specs.Kept.{Kept}
use Rattle.buffer.proofs.KeptLaws.{keep_front, Joins}

take_none : (n : ℕ) → ◌≡◌ {A = List ℕ} (take n []) []
take_none zero = refl
take_none (suc n) = refl

pub added_none : (room : ℕ) (kept : List ℕ) → added room kept [] ≡ kept
unfolding added
added_none room kept = rw (take_none (room - length kept)) (append-nil kept)

take_both : (n : ℕ) (xs ys : List ℕ) → take n (xs ++ ys) ≡ take n xs ++ take (n - length xs) ys
take_both n [] ys = let all : n - 0 ≡ n = omega arith in rw (take_none n, all)
take_both zero (x ∷ xs) ys = let none : 0 - suc (length xs) ≡ 0 = omega arith in rw none refl
take_both (suc n) (x ∷ xs) ys =
    let less : suc n - suc (length xs) ≡ n - length xs = omega arith in
    rw less (ap (λ (l : List ℕ). x ∷ l) (take_both n xs ys))

pub added_then : (room : ℕ) (kept xs ys : List ℕ) → added room (added room kept xs) ys ≡ added room kept (xs ++ ys)
unfolding added
added_then room kept xs ys =
    let left : room - length (kept ++ take (room - length kept) xs) ≡ room - length kept - length xs =
    rw (length-append, length-take) (omega arith) in
    rw (left, take_both (room - length kept) xs ys) (append_assoc kept (take (room - length kept) xs) (take (room - length kept - length xs) ys))

pub added_on : (room : ℕ) (before more more' : List ℕ) {mid after : List ℕ} → mid ≡ added room before more → after ≡ added room mid more'
    → after ≡ added room before (more ++ more')
added_on room before more more' p q = q ∙ ap (λ (l : List ℕ). added room l more') p ∙ added_then room before more more'

-- what is written of a list, piece by piece: of none, and of one element more
module _ {f : List ℕ → List ℕ} (j : Joins f) (room : ℕ) (before : List ℕ) where
  pub added_start : before ≡ added room before (f [])
  added_start = rw j.none (sym (added_none room before))

  pub added_more : (xs : List ℕ) (i : ℕ) {mid after : List ℕ} → i < length xs → mid ≡ added room before (f (take i xs))
      → after ≡ added room mid (f (get_or xs i 0 ∷ [])) → after ≡ added room before (f (take (i + 1) xs))
  added_more xs i h p q =
      let e : f (take (i + 1) xs) ≡ f (take i xs) ++ f (get_or xs i 0 ∷ []) =
      rw (add-one, take-suc xs i 0) (j.joined (take i xs) (get_or xs i 0 ∷ [])) in
      rw e (added_on room before (f (take i xs)) (f (get_or xs i 0 ∷ [])) p q)

-- what was kept stays
pub added_least : (room : ℕ) (kept more : List ℕ) → length kept ≤ length (added room kept more)
unfolding added
added_least room kept more = rw length-append (omega arith)

-- where what was kept had room, it is the first bytes of the whole
pub added_front : (room : ℕ) (kept more : List ℕ) → length kept ≤ room → added room kept more ≡ take room (kept ++ more)
unfolding added
added_front room kept more h = rw (take_both room kept more, take_all room kept h)

-- there was room for all
pub added_all : (room : ℕ) (kept more : List ℕ) → length kept + length more ≤ room → added room kept more ≡ kept ++ more
unfolding added
added_all room kept more h = ap (λ (l : List ℕ). kept ++ l) (take_all (room - length kept) more (omega arith))

-- what a buffer's first bytes are behind an addition
pub kept_added : {before more after was : List ℕ} {kept n : ℕ} (room : ℕ) → Kept before kept more after n → take kept before ≡ was → length before ≡ room
    → kept ≤ room → take n after ≡ added room was more
kept_added {before} {more} {after} {was} {kept} {n} room p w l h =
    let fits : length was ≤ room = omega (arith, ap length w, length-take kept before) in
    keep_front p ∙ (λ i. take (l i) (w i ++ more)) ∙ sym (added_front room was more fits)
