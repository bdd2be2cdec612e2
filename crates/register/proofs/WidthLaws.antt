-- The width of a row: worked out of the head once, and what it tells where it is handed on.
use mathlib.Core.Logic.{◌⊎◌, inl, inr}
use mathlib.Core.Path.{◌≡◌, ◌∙◌, refl, sym, ap}
use mathlib.Core.Bool.{Bool, true, false, cond, not, ◌&&◌, ◌||◌}
use mathlib.Core.List.{List}
use Rattle.std.proofs.Common.{Option, Some, None}
use Prim.Native.Nat.{ℕ, ◌+◌, ◌*◌, ◌-◌, ◌≤◌, ◌<◌}
use native.Mathlib.Omega.{arith}
use borrow.Author.Tests.{leb-true, leb-false, le-leb, eqb-true, eqb-false, eq-eqb, ne_eqb, ltb-true, ltb-false}
use lib.Dec.{leb, ltb, eqb}
use lib.ListN.{length, drop}
use Rattle.text.specs.Ascii.{ascii}
use Rattle.text.specs.Word.{starts_with}
use Rattle.text.specs.Number.{little_endian}
use Rattle.text.proofs.Bools.{by_test, and_left, or_left, or_right}
use Rattle.register.specs.Frame.{width, place, version, day_width, used, capacity, framed, full, is_used, row_width}
use Rattle.register.proofs.FrameLaws.{Framed, framed_is, capacity_small, row_within, fits_bytes, bytes_fit}

-- the width of a row by the version, as it is worked out
abbrev pub width_in : ℕ → ℕ
width_in v = cond (eqb v 1) 74 (cond (eqb v 2) 78 0)

-- it is one of three
pub width_in_lem : (v : ℕ) → ((width_in v ≡ 74) ⊎ (width_in v ≡ 78)) ⊎ (width_in v ≡ 0)
width_in_lem v =
    by_test
    (eqb v 1)
    (λ t. inl (inl (rw t)))
    (λ t. by_test (eqb v 2) (λ u. inl (inr (rw (t, u)))) (λ u. inr (rw (t, u))))

-- so that as many rows as the head can count, and one more, have few bytes
pub small_product : (v k : ℕ) → k ≤ 4294967296 → k * width_in v ≤ 335007449088
small_product v k h = go (width_in_lem v)
  where
    go : ((width_in v ≡ 74) ⊎ (width_in v ≡ 78)) ⊎ (width_in v ≡ 0) → k * width_in v ≤ 335007449088
    go (inl (inl e)) = rw e (omega arith)
    go (inl (inr e)) = rw e (omega arith)
    go (inr e) = rw e (omega arith)

module _ (register : List ℕ) where
  -- and of a version that there is it is the row's
  pub known_width : (eqb (version register) 1 || eqb (version register) 2) ≡ true → width_in (version register) ≡ width (day_width register)
  unfolding day_width
  known_width k =
      by_test
      (eqb (version register) 1)
      (λ t.
      let two : eqb (version register) 2 ≡ false = ap (λ v. eqb v 2) (eqb-true (version register) 1 t) in
      rw (t, two))
      (λ t. rw t (let two : eqb (version register) 2 ≡ true = rw t at k in rw two))

  pub no_mark : (leb 9 (length register) && starts_with (ascii "TRN") register) ≡ false → 0 ≡ row_width register
  unfolding row_width framed
  no_mark h = rw h

  module _ (marked : (leb 9 (length register) && starts_with (ascii "TRN") register) ≡ true) where
    pub long : 9 ≤ length register
    long = leb-true 9 (length register) (and_left (leb 9 (length register)) (starts_with (ascii "TRN") register) marked)

    pub too_many : length register - 9 < used register * width_in (version register) → 0 ≡ row_width register
    unfolding row_width
    too_many h =
        by_test
        (framed register)
        (λ t.
        let f : Framed register = framed_is register t in
        let over : length register - 9 < used register * width (day_width register) = rw (known_width f.known) at h in
        absurd (omega (arith, bytes_fit register f.fits)))
        (λ t. rw t)

    pub width_is : used register ≤ 4294967295 → used register * width_in (version register) ≤ length register - 9 → width_in (version register) ≡ row_width register
    unfolding row_width framed
    width_is few h =
        by_test
        (eqb (version register) 1 || eqb (version register) 2)
        (λ k.
        let w : width_in (version register) ≡ width (day_width register) = known_width k in
        rw (marked, k, le-leb _ _ (fits_bytes register few (rw w at h))) w)
        (λ k.
        rw (marked, k, or_left (eqb (version register) 1) (eqb (version register) 2) k, or_right (eqb (version register) 1) (eqb (version register) 2) k))

-- the same as an answer that may be none
abbrev pub version_width : ℕ → Option ℕ
version_width v = cond (eqb v 1) (Some 74) (cond (eqb v 2) (Some 78) None)

version_some : (v : ℕ) {w : ℕ} → Some w ≡ version_width v → w ≡ width_in v
version_some v {w} h =
    by_test
    (eqb v 1)
    (λ t.
    let e : Some w ≡ Some 74 = rw t at h in
    rw t cc)
    (λ t.
    by_test
    (eqb v 2)
    (λ u.
    let e : Some w ≡ Some 78 = rw (t, u) at h in
    rw (t, u) cc)
    (λ u.
    let e : Some w ≡ None = rw (t, u) at h in
    cc))

version_none : (v : ℕ) → None ≡ version_width v → (eqb v 1 || eqb v 2) ≡ false
version_none v h =
    by_test
    (eqb v 1)
    (λ t.
    let e : None ≡ Some 74 = rw t at h in
    cc)
    (λ t.
    by_test
    (eqb v 2)
    (λ u.
    let e : None ≡ Some 78 = rw (t, u) at h in
    cc)
    (λ u. rw (t, u)))

-- what the code reads of the head, one after the other
module _ (register : List ℕ) {starts : Bool} (reads : starts ≡ starts_with (ascii "TRN") register) where
  pub read_no_mark : (leb 9 (length register) && starts) ≡ false → 0 ≡ row_width register
  read_no_mark h = no_mark register (rw (sym reads) h)

  module _ (h : (leb 9 (length register) && starts) ≡ true) where
    marked : (leb 9 (length register) && starts_with (ascii "TRN") register) ≡ true
    marked = rw (sym reads) h

    module _ {bits : ℕ} (le : bits ≡ little_endian 2 (drop 3 register)) where
      the_version : bits ≡ version register
      unfolding version
      the_version = le

      pub read_no_version : None ≡ version_width bits → 0 ≡ row_width register
      unfolding row_width framed
      read_no_version none = rw (marked, version_none (version register) (rw the_version at none))

      module _ {w : ℕ} (some : Some w ≡ version_width bits) {count : ℕ} (counts : count ≡ used register) where
        its_width : w ≡ width_in (version register)
        its_width = version_some (version register) (rw the_version at some)

        pub read_too_many : length register - 9 < count * w → 0 ≡ row_width register
        read_too_many over = too_many register marked (rw (counts, its_width) at over)

        pub read_width : count ≤ 4294967295 → count * w ≤ length register - 9 → w ≡ row_width register
        read_width few fits = its_width ∙ width_is register marked (rw counts at few) (rw (counts, its_width) at fits)

-- a row has 74 bytes, or 78
pub width_known : (register : List ℕ) → (width (day_width register) ≡ 74) ⊎ (width (day_width register) ≡ 78)
unfolding day_width
width_known register = by_test (eqb (version register) 2) (λ t. rw t (inr refl)) (λ t. rw t (inl refl))

pub narrow : {w : ℕ} → (w ≡ 74) ⊎ (w ≡ 78) → (w ≡ 78 → ⊥) → w ≡ 74
narrow (inl e) h = e
narrow (inr e) h = absurd (h e)

-- what the width of a row tells, as it is handed on
module _ {w : ℕ} (register : List ℕ) (told : w ≡ row_width register) where
  pub told_framed : (w ≡ 0 → ⊥) → framed register ≡ true
  unfolding row_width
  told_framed h = by_test (framed register) (λ t. t) (λ t. absurd (h (told ∙ rw t)))

  pub told_none : w ≡ 0 → framed register ≡ false
  unfolding row_width
  told_none z =
      by_test
      (framed register)
      (λ t.
      let some : w ≡ width (day_width register) = told ∙ rw t in
      absurd (omega arith))
      (λ t. t)

  pub told_width : framed register ≡ true → w ≡ width (day_width register)
  unfolding row_width
  told_width t = told ∙ rw t

  pub told_unframed : eqb w 0 ≡ not (framed register)
  told_unframed = by_test (eqb w 0) (λ z. rw (z, told_none (eqb-true _ _ z))) (λ z. rw (z, told_framed (eqb-false _ _ z)))

  pub product_small : (k : ℕ) → k ≤ 4294967296 → k * w ≤ 335007449088
  product_small k h =
      by_test
      (eqb w 0)
      (λ z. rw (eqb-true w 0 z) (omega arith))
      (λ z.
      let t : framed register ≡ true = told_framed (eqb-false w 0 z) in
      let e : w ≡ width_in (version register) = told_width t ∙ sym (known_width register (framed_is register t).known) in
      rw e (small_product (version register) k h))

  pub told_used : (k : ℕ) → (not (eqb w 0) && ltb k (used register)) ≡ is_used register k
  unfolding is_used
  told_used k =
      by_test
      (eqb w 0)
      (λ z. rw (z, told_none (eqb-true _ _ z)))
      (λ z. rw (z, told_framed (eqb-false _ _ z)))

  -- no row more fits: the head can count no more, or the bytes are not there
  module _ (t : framed register ≡ true) where
    no_more : (used register ≡ 4294967295) ⊎ (length register - 9 < (used register + 1) * w) → used register ≡ capacity register
    no_more (inl top) = omega (arith, (framed_is register t).fits, capacity_small register)
    no_more (inr short) = omega (arith, (framed_is register t).fits, over)
      where
        over : capacity register < used register + 1
        over =
            by_test
            (leb (used register + 1) (capacity register))
            (λ l. absurd (omega (arith, rw (told_width t) at short, bytes_fit register {k = used register + 1} (leb-true _ _ l))))
            (λ l. leb-false _ _ l)

    one_more : (used register ≡ 4294967295 → ⊥) → (used register + 1) * w ≤ length register - 9 → used register ≡ capacity register → ⊥
    one_more top there e =
        let few : used register + 1 ≤ 4294967295 = omega (arith, (framed_is register t).fits, capacity_small register) in
        omega (arith, fits_bytes register {k = used register + 1} few (rw (told_width t) at there))

    pub told_full : (eqb (used register) 4294967295 || ltb (length register - 9) ((used register + 1) * w)) ≡ full register
    unfolding full
    told_full =
        by_test
        (eqb (used register) 4294967295)
        (λ top. rw (top, t) (sym (eq-eqb _ _ (no_more (inl (eqb-true _ _ top))))))
        (λ top.
        by_test
        (ltb (length register - 9) ((used register + 1) * w))
        (λ short. rw (top, short, t) (sym (eq-eqb _ _ (no_more (inr (ltb-true _ _ short))))))
        (λ short. rw (top, short, t) (sym (ne_eqb _ _ (one_more (eqb-false _ _ top) (ltb-false (length register - 9) ((used register + 1) * w) short))))))

  pub told_open : not (eqb w 0 || full register) ≡ (framed register && not (full register))
  told_open =
      by_test
      (eqb w 0)
      (λ z. rw (z, told_none (eqb-true _ _ z)))
      (λ z. rw (z, told_framed (eqb-false _ _ z)))

  pub none_full : w ≡ 0 → false ≡ full register
  unfolding full
  none_full z = rw (told_none z)

-- row k stands within the bytes, at the place that is worked out from the width
pub record RowAt (w : ℕ) (register : List ℕ) (k : ℕ) : Type 0 where
  pub place_is : 9 + k * w ≡ place (day_width register) k
  pub within : 9 + k * w + w ≤ length register
  pub known : (w ≡ 74) ⊎ (w ≡ 78)
  pub day_is : w - 74 ≡ day_width register

pub row_at : (w : ℕ) (register : List ℕ) (k : ℕ) → w ≡ row_width register → framed register ≡ true → k < capacity register → RowAt w register k
row_at w register k told t few =
    let walk : w ≡ width (day_width register) = told_width register told t in
    let there : 9 + k * w ≡ place (day_width register) k = ap (λ m. 9 + k * m) walk in
    record {
      place_is = there;
      within = omega (arith, row_within register k (framed_is register t).head few);
      known = rw walk (width_known register);
      day_is = omega arith;
    }
