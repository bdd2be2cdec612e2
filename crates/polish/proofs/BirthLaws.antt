-- The birth day: each real day of 1800 to 2299 has one row of six digits that names it.
use Prim.Native.Nat.{ℕ, ◌+◌, ◌*◌, ◌/◌, ◌%◌, ◌≤◌, ◌<◌}
use mathlib.Core.Path.{◌≡◌, ◌∙◌, refl, sym, ap}
use mathlib.Core.Bool.{true}
use mathlib.Core.List.{List}
use native.Mathlib.Omega.{arith}
use lib.ListN.{length, drop}
use borrow.Author.Tests.{le-leb}
use Rattle.text.specs.declared.classes.Class.TheVariants.{Digit}
use Rattle.text.specs.Class.{all_of}
use Rattle.text.specs.Number.{two_digits}
use Rattle.text.proofs.NumberLaws.{two_small}
use Rattle.calendar.specs.Day.{year_of, month_of, day_of, day_at, is_day_of}
use Rattle.calendar.proofs.Real.{RealOf, real_of}
use Rattle.polish.specs.Birth.{century, day_by, birth_day, is_birth}
use Rattle.polish.proofs.CenturyLaws.{hundreds, twenties, hundreds_twenties, twenties_hundreds, century_month, century_some}
use Rattle.polish.proofs.RowLaws.{row, row_digits, row_day, row_read}

-- the month's number of a day: the month in the 1900s, twenty more in each later century, and eighty more in the 1800s
abbrev month_number : ℕ → ℕ
month_number day = month_of day + twenties (year_of day / 100) * 20

-- the six digits that name a day
unfoldable pub row_of : ℕ → List ℕ
row_of day = row (year_of day % 100) (month_number day) (day_of day)

-- a day by the hundreds and the rest of its year
module _ (a y m d : ℕ) where
  named_by : 18 ≤ a → a ≤ 22 → 1 ≤ m → m ≤ 12 → day_by y (m + twenties a * 20) d ≡ day_at (a * 100 + y) m d
  named_by h k l n =
      let place : (m + twenties a * 20) / 20 ≡ twenties a = omega arith in
      let month : (m + twenties a * 20) % 20 ≡ m = omega arith in
      let years : century (m + twenties a * 20) ≡ a * 100 = century_month _ (omega arith) (rw (month, le-leb 1 m l, le-leb m 12 n)) ∙ (λ i. (ap hundreds place ∙ hundreds_twenties a h k) i * 100) in
      λ i. day_at (years i + y) (month i) d

  parts_of : y ≤ 99 → m ≤ 19 → d ≤ 99 → row_of (day_at (a * 100 + y) m d) ≡ row y (m + twenties a * 20) d
  unfolding row_of
  parts_of h k l =
      let above : year_of (day_at (a * 100 + y) m d) / 100 ≡ a = omega arith in
      let year : year_of (day_at (a * 100 + y) m d) % 100 ≡ y = omega arith in
      let month : month_of (day_at (a * 100 + y) m d) ≡ m = omega arith in
      let day : day_of (day_at (a * 100 + y) m d) ≡ d = omega arith in
      λ i. row (year i) (month i + twenties (above i) * 20) (day i)

-- for every real day of 1800 to 2299 there are six digits that name it
module _ (day : ℕ) (e : is_day_of 1800 2299 day ≡ true) where
  number_small : month_number day ≤ 99
  number_small = omega (arith, real_of day 1800 2299 e)

  named : day_by (year_of day % 100) (month_number day) (day_of day) ≡ day
  named =
      let k = real_of day 1800 2299 e in
      let whole : day_at (year_of day / 100 * 100 + year_of day % 100) (month_of day) (day_of day) ≡ day = omega arith in
      named_by (year_of day / 100) (year_of day % 100) (month_of day) (day_of day) (omega arith) (omega arith) k.month_from k.month_to ∙ whole

  pub birth_named : (length (row_of day) ≡ 6) × (all_of Digit (row_of day) ≡ true) × (birth_day (row_of day) ≡ day)
  unfolding row_of
  birth_named =
      let year-small : year_of day % 100 ≤ 99 = omega arith in
      let day_small : day_of day ≤ 99 = omega arith in
      (refl, row_digits _ _ _ year-small number_small day_small, row_day _ _ _ year-small number_small day_small ∙ named)

-- a month's number of a real day is that of a month
century_kept : (y m d : ℕ) → y ≤ 99 → d ≤ 99 → RealOf 1800 2299 (year_of (day_by y m d)) (month_of (day_by y m d)) (day_of (day_by y m d)) → 0 < century m
century_kept y m d h l k = omega arith

pub birth_years : (s : List ℕ) → is_birth s ≡ true → 0 < century (two_digits (drop 2 s))
unfolding birth_day is_birth
birth_years s r = century_kept (two_digits s) (two_digits (drop 2 s)) (two_digits (drop 4 s)) (two_small s) (two_small (drop 4 s)) (real_of (birth_day s) 1800 2299 r)

-- the digits that name a real day are its row
row_of_lem : (y m d : ℕ) → y ≤ 99 → m ≤ 99 → d ≤ 99 → 0 < century m → row_of (day_by y m d) ≡ row y m d
row_of_lem y m d hy hm hd k =
    let years = century_some m hm k in
    let number : m % 20 + twenties (hundreds (m / 20)) * 20 ≡ m = omega (arith, twenties_hundreds (m / 20) (omega arith)) in
    (λ i. row_of (day_at (years i + y) (m % 20) d))
    ∙ parts_of (hundreds (m / 20)) y (m % 20) d hy (omega arith) hd
    ∙ (λ i. row y (number i) d)

pub birth_row : (s : List ℕ) → length s ≡ 6 → all_of Digit s ≡ true → is_birth s ≡ true → row_of (birth_day s) ≡ s
unfolding birth_day
birth_row s h e r =
    row_of_lem (two_digits s) (two_digits (drop 2 s)) (two_digits (drop 4 s)) (two_small s) (two_small (drop 2 s)) (two_small (drop 4 s)) (birth_years s r)
    ∙ sym (row_read s h e)

-- so no two rows name the same
pub birth_one : (s t : List ℕ) → length s ≡ 6 → all_of Digit s ≡ true → length t ≡ 6 → all_of Digit t ≡ true → is_birth s ≡ true → birth_day s ≡ birth_day t → s ≡ t
unfolding is_birth
birth_one s t hs es ht et r p = sym (birth_row s hs es r) ∙ ap row_of p ∙ birth_row t ht et (ap (is_day_of 1800 2299) (sym p) ∙ r)
