-- A year of its century, a month's number and a day as six digits, and back.
use Prim.Native.Nat.{ℕ, ◌+◌, ◌*◌, ◌/◌, ◌%◌, ◌≤◌}
use mathlib.Core.Path.{◌≡◌, ◌∙◌, ap}
use mathlib.Core.Bool.{true, ◌&&◌}
use mathlib.Core.List.{List, [], ◌∷◌}
use native.Mathlib.Omega.{arith}
use lib.ListN.{length, drop, length-drop, drop_of_length-le}
use lib.Seq.{drop-drop}
use borrow.Author.Tests.{le-leb}
use Rattle.text.specs.declared.classes.Class.TheVariants.{Digit}
use Rattle.text.specs.Class.{in_class, all_of}
use Rattle.text.specs.Number.{digit_of, two_digits}
use Rattle.text.proofs.Bools.{and_left, and_right}
use Rattle.text.proofs.NumberLaws.{digit_yes, digit_small}
use Rattle.polish.specs.Birth.{day_by, birth_day}

-- the two digits that write a number below a hundred, before others
abbrev pub pair_of : ℕ → List ℕ → List ℕ
pair_of n s = (48 + n / 10) ∷ (48 + n % 10) ∷ s

digit_written : (n : ℕ) → n ≤ 9 → in_class Digit (48 + n) ≡ true
digit_written n h = rw (le-leb 48 (48 + n) (omega arith), le-leb (48 + n) 57 (omega arith))

digit_read : (n : ℕ) → n ≤ 9 → digit_of (48 + n) ≡ n
unfolding digit_of
digit_read n h = rw (digit_written n h) (omega arith)

module _ (n : ℕ) (s : List ℕ) (h : n ≤ 99) where
  pair_digits : all_of Digit (pair_of n s) ≡ all_of Digit s
  unfolding all_of
  pair_digits = rw (digit_written (n / 10) (omega arith), digit_written (n % 10) (omega arith))

  pair_read : two_digits (pair_of n s) ≡ n
  unfolding two_digits
  pair_read = rw (digit_read (n / 10) (omega arith), digit_read (n % 10) (omega arith)) (omega arith)

-- what two digits read is written by them alone
byte_of : (b : ℕ) → in_class Digit b ≡ true → b ≡ 48 + digit_of b
unfolding digit_of
byte_of b e = rw e (omega (arith, digit_yes b e))

pair_one : (s : List ℕ) → 2 ≤ length s → all_of Digit s ≡ true → (s ≡ pair_of (two_digits s) (drop 2 s)) × (all_of Digit (drop 2 s) ≡ true)
unfolding all_of two_digits
pair_one [] h e = absurd (omega arith)
pair_one (a ∷ []) h e = absurd (omega arith)
pair_one (a ∷ b ∷ s) h e =
    let rest = and_right (in_class Digit a) (in_class Digit b && all_of Digit s) e in
    let first = byte_of a (and_left (in_class Digit a) (in_class Digit b && all_of Digit s) e) in
    let second = byte_of b (and_left (in_class Digit b) (all_of Digit s) rest) in
    let tens : a ≡ 48 + (digit_of a * 10 + digit_of b) / 10 = omega (arith, digit_small b) in
    let units : b ≡ 48 + (digit_of a * 10 + digit_of b) % 10 = omega (arith, digit_small b) in
    (λ i. tens i ∷ units i ∷ s, and_right (in_class Digit b) (all_of Digit s) rest)

-- the six digits of a year of its century, a month's number and a day
abbrev pub row : ℕ → ℕ → ℕ → List ℕ
row y m d = pair_of y (pair_of m (pair_of d []))

module _ (y m d : ℕ) (hy : y ≤ 99) (hm : m ≤ 99) (hd : d ≤ 99) where
  pub row_digits : all_of Digit (row y m d) ≡ true
  unfolding all_of
  row_digits = pair_digits y (pair_of m (pair_of d [])) hy ∙ pair_digits m (pair_of d []) hm ∙ pair_digits d [] hd

  pub row_day : birth_day (row y m d) ≡ day_by y m d
  unfolding birth_day
  row_day = λ i. day_by (pair_read y (pair_of m (pair_of d [])) hy i) (pair_read m (pair_of d []) hm i) (pair_read d [] hd i)

-- six digits are the row of what they read
pub row_read : (s : List ℕ) → length s ≡ 6 → all_of Digit s ≡ true → s ≡ row (two_digits s) (two_digits (drop 2 s)) (two_digits (drop 4 s))
row_read s h e =
    let year = pair_one s (omega arith) e in
    let month = pair_one (drop 2 s) (rw length-drop (omega arith)) year.1 in
    let day = pair_one (drop 2 (drop 2 s)) (rw (length-drop, length-drop) (omega arith)) month.1 in
    let none : drop 2 (drop 2 (drop 2 s)) ≡ [] = drop_of_length-le (drop 2 (drop 2 s)) {i = 2} (rw (length-drop, length-drop) (omega arith)) in
    year.0 ∙ ap (pair_of (two_digits s)) (month.0 ∙ ap (pair_of (two_digits (drop 2 s))) (day.0 ∙ rw (none, drop-drop 2 2 s)))
