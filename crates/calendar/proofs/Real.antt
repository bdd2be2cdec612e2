-- A real day by its year, month and day: what holds of them, how its days are counted, which of two is the earlier, what follows it.
use Prim.Native.Nat.{ℕ, ◌+◌, ◌≤◌, ◌<◌}
use mathlib.Core.Path.{◌≡◌, ◌∙◌, refl, sym, ap}
use mathlib.Core.Bool.{Bool, true, ◌&&◌}
use native.Mathlib.Omega.{arith}
use lib.Dec.{leb, ltb}
use borrow.Author.Tests.{leb-true, ltb-true, ltb-false, le-leb}
use Rattle.calendar.specs.Day.{year_of, month_of, day_of, day_at, month_length, is_day_of, is_day}
use Rattle.text.proofs.Bools.{and_left, and_right, by_test}
use Rattle.calendar.proofs.DayNumber.{year_length, total, days_to, day_number}
use Rattle.calendar.proofs.Sums.{total_none, total_on, total_le, months_of_year, month_small}

pub record RealOf (first last y m d : ℕ) : Type 0 where
  pub year_from : first ≤ y
  pub year_to : y ≤ last
  pub month_from : 1 ≤ m
  pub month_to : m ≤ 12
  pub day_from : 1 ≤ d
  pub day_to : d ≤ month_length y m

abbrev pub Real : ℕ → ℕ → ℕ → Type 0
Real y m d = RealOf 1900 9999 y m d

six : (a b p q r s : Bool) → (a && b && p && q && r && s) ≡ true → (a ≡ true) × (b ≡ true) × (p ≡ true) × (q ≡ true) × (r ≡ true) × (s ≡ true)
six a b p q r s e =
    let e5 = and_left (a && b && p && q && r) s e in
    let e4 = and_left (a && b && p && q) r e5 in
    let e3 = and_left (a && b && p) q e4 in
    let e2 = and_left (a && b) p e3 in (
      and_left a b e2,
      and_right a b e2,
      and_right (a && b) p e3,
      and_right (a && b && p) q e4,
      and_right (a && b && p && q) r e5,
      and_right (a && b && p && q && r) s e,
    )

module _ (ymd : ℕ) where
  pub real_of : (first last : ℕ) → is_day_of first last ymd ≡ true → RealOf first last (year_of ymd) (month_of ymd) (day_of ymd)
  real_of first last e =
      let y = year_of ymd in
      let m = month_of ymd in
      let d = day_of ymd in
      let t = six (leb first y) (leb y last) (leb 1 m) (leb m 12) (leb 1 d) (leb d (month_length y m)) e in
      record {
        year_from = leb-true first y t.0;
        year_to = leb-true y last t.1;
        month_from = leb-true 1 m t.2;
        month_to = leb-true m 12 t.3;
        day_from = leb-true 1 d t.4;
        day_to = leb-true d (month_length y m) t.5;
      }

  pub real : is_day ymd ≡ true → Real (year_of ymd) (month_of ymd) (day_of ymd)
  unfolding is_day
  real e = real_of 1900 9999 e

  pub number_is : is_day ymd ≡ true → day_number ymd ≡ days_to (year_of ymd) (month_of ymd) (day_of ymd)
  unfolding day_number
  number_is e = rw e

module _ {y m d : ℕ} (r : Real y m d) where
  pub day_small : d ≤ 31
  day_small = omega (arith, month_small y m)

  year_at : year_of (day_at y m d) ≡ y
  year_at = omega (arith, day_small)

  month_at : month_of (day_at y m d) ≡ m
  month_at = omega (arith, day_small)

  day_at_lem : day_of (day_at y m d) ≡ d
  day_at_lem = omega (arith, day_small)

  pub is_day_at : is_day (day_at y m d) ≡ true
  unfolding is_day
  is_day_at =
      rw (
        year_at,
        month_at,
        day_at_lem,
        le-leb _ _ r.year_from,
        le-leb _ _ r.year_to,
        le-leb _ _ r.month_from,
        le-leb _ _ r.month_to,
        le-leb _ _ r.day_from,
        le-leb _ _ r.day_to,
      )

  pub number_at : day_number (day_at y m d) ≡ days_to y m d
  number_at = number_is (day_at y m d) is_day_at ∙ rw (year_at, month_at, day_at_lem)

-- of two real days the earlier has the smaller number
module _ (y m d y' m' d' : ℕ) (a : Real y m d) (b : Real y' m' d') where
  pub by_year : y < y' → days_to y m d < days_to y' m' d'
  by_year h =
      omega (
        arith,
        total_on year_length 1900 y a.year_from,
        total_le year_length 1900 (y + 1) y' (omega arith),
        total_on (month_length y) 1 m a.month_from,
        total_le (month_length y) 1 (m + 1) 13 (omega arith),
        months_of_year y,
      )

  pub by_month : y ≡ y' → m < m' → days_to y m d < days_to y' m' d'
  by_month e h =
      omega (
        arith,
        ap (λ (z : ℕ). total year_length 1900 z) e,
        ap (λ (z : ℕ). total (month_length z) 1 m') e,
        total_on (month_length y) 1 m a.month_from,
        total_le (month_length y) 1 (m + 1) m' (omega arith),
      )

  pub by_day : y ≡ y' → m ≡ m' → d < d' → days_to y m d < days_to y' m' d'
  by_day e f h =
      omega (
        arith,
        ap (λ (z : ℕ). total year_length 1900 z) e,
        ap (λ (z : ℕ). total (month_length z) 1 m') e,
        ap (λ (z : ℕ). total (month_length y) 1 z) f,
      )

  pub sooner : day_at y m d < day_at y' m' d' → days_to y m d < days_to y' m' d'
  sooner h =
      by_test (ltb y y')
      (λ p. by_year (ltb-true y y' p))
      (λ p.
      let e : y ≡ y' = omega (arith, ltb-false y y' p, day_small a, day_small b) in
      by_test (ltb m m')
      (λ q. by_month e (ltb-true m m' q))
      (λ q.
      let f : m ≡ m' = omega (arith, ltb-false m m' q, day_small a, day_small b) in
      by_day e f (omega arith)))

december : (y : ℕ) → month_length y 12 ≡ 31
unfolding month_length
december y = refl

-- the day that follows
module _ {y m d : ℕ} (r : Real y m d) where
  pub next_in_month : d < month_length y m → Real y m (d + 1) × (days_to y m (d + 1) ≡ days_to y m d + 1)
  next_in_month h = (
    record {
      year_from = r.year_from;
      year_to = r.year_to;
      month_from = r.month_from;
      month_to = r.month_to;
      day_from = omega arith;
      day_to = omega arith;
    },
    omega arith,
  )

  pub next_month : month_length y m ≤ d → m < 12 → Real y (m + 1) 1 × (days_to y (m + 1) 1 ≡ days_to y m d + 1)
  next_month h k = (
    record {
      year_from = r.year_from;
      year_to = r.year_to;
      month_from = omega arith;
      month_to = omega arith;
      day_from = omega arith;
      day_to = omega (arith, month_small y (m + 1));
    },
    omega (arith, total_on (month_length y) 1 m r.month_from),
  )

  in_next : m ≡ 12 → 31 ≤ d → y < 9999 → Real (y + 1) 1 1 × (days_to (y + 1) 1 1 ≡ days_to y m d + 1)
  in_next e h l = (
    record {
      year_from = omega arith;
      year_to = omega arith;
      month_from = omega arith;
      month_to = omega arith;
      day_from = omega arith;
      day_to = omega (arith, month_small (y + 1) 1);
    },
    omega (
      arith,
      day_small r,
      total_none (month_length (y + 1)) 1,
      total_on year_length 1900 y r.year_from,
      ap (λ (z : ℕ). total (month_length y) 1 z) e,
      total_on (month_length y) 1 12 (omega arith),
      december y,
      months_of_year y,
    ),
  )

  pub next_year : month_length y m ≤ d → 12 ≤ m → day_at y m d < 99991231 → Real (y + 1) 1 1 × (days_to (y + 1) 1 1 ≡ days_to y m d + 1)
  next_year h k l =
      let e : m ≡ 12 = omega arith in
      let f : 31 ≤ d = omega (arith, ap (month_length y) e, december y) in
      in_next e f (omega arith)

-- of the numbers yyyymmdd
pub whole : (ymd : ℕ) → ymd ≡ day_at (year_of ymd) (month_of ymd) (day_of ymd)
whole ymd = omega arith

pub follows : (ymd : ℕ) → is_day ymd ≡ true → {y m d : ℕ} → Real y m d × (days_to y m d ≡ days_to (year_of ymd) (month_of ymd) (day_of ymd) + 1)
    → (is_day (day_at y m d) ≡ true) × (day_number (day_at y m d) ≡ day_number ymd + 1)
follows ymd e t = (is_day_at t.0, number_at t.0 ∙ t.1 ∙ ap (λ (n : ℕ). n + 1) (sym (number_is ymd e)))

pub rises : (a b : ℕ) → is_day a ≡ true → is_day b ≡ true → a < b → day_number a < day_number b
rises a b e f h =
    let k : day_at (year_of a) (month_of a) (day_of a) < day_at (year_of b) (month_of b) (day_of b) = omega arith in
    rw (number_is a e, number_is b f) (sooner _ _ _ _ _ _ (real a e) (real b f) k)

pub falls : (a b : ℕ) → is_day a ≡ true → is_day b ≡ true → b ≤ a → day_number b ≤ day_number a
falls a b e f h =
    by_test (ltb b a)
    (λ p. omega (arith, rises b a f e (ltb-true b a p)))
    (λ p. let g : a ≡ b = omega (arith, ltb-false b a p) in omega (arith, ap day_number g))
