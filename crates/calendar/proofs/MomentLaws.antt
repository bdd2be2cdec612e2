-- Moments. What follows the seconds: its length says which of the seven endings it could be.
use mathlib.Core.Path.{◌≡◌, ◌∙◌, sym, refl}
use mathlib.Core.Bool.{Bool, true, false, ◌&&◌, ◌||◌, and-false, or-false}
use mathlib.Core.List.{List, [], ◌∷◌}
use Prim.Native.Nat.{ℕ, zero, suc, ◌+◌, ◌-◌, ◌≤◌, ◌<◌}
use native.Mathlib.Omega.{arith}
use borrow.Author.Tests.{eqb-true, eqb-false, ltb-true, ltb-false, le-leb, lt-leb}
use lib.Dec.{eqb, leb, ltb}
use lib.ListN.{length, get_or, take, drop, length-take, length-drop, drop_of_length-le}
use Rattle.std.specs.Prelude.{None}
use Rattle.text.specs.declared.classes.Class.TheVariants.{Digit}
use Rattle.text.specs.Ascii.{ascii}
use Rattle.text.specs.Class.{run_of}
use Rattle.text.specs.Shape.{shape}
use Rattle.text.proofs.Bools.{by_test}
use Rattle.text.proofs.WordLaws.{other_length}
use Rattle.text.proofs.RunLaws.{in_runs, times}
use Rattle.calendar.specs.Day.{is_day}
use Rattle.calendar.specs.Dates.{day_written}
use Rattle.calendar.specs.Moments.{is_ending, is_time, is_moment_cell, when_of}
use Rattle.calendar.proofs.CellRuns.{z_runs, fraction_runs}

-- a point, k digits, Z
abbrev ending : ℕ → List ℕ
ending k = 46 ∷ times k 100 (90 ∷ [])

-- Z, or up to m digits
abbrev endings : ℕ → List ℕ → Bool
endings zero t = shape (ascii "Z") t
endings (suc m) t = endings m t || shape (ending (suc m)) t

ending_length : (k : ℕ) → length (ending k) ≡ k + 2
ending_length zero = refl
ending_length (suc k) = omega (arith, ending_length k)

other_ending : (k : ℕ) (t : List ℕ) → (length t ≡ k + 2 → ⊥) → shape (ending k) t ≡ false
other_ending k t h = sym (other_length (ending k) t (λ e. h (e ∙ ending_length k)))

longer : (m : ℕ) (t : List ℕ) → m + 2 < length t → endings m t ≡ false
longer zero t h = sym (other_length (ascii "Z") t (λ e. absurd (omega arith)))
longer (suc m) t h = rw (longer m t (omega arith)) (other_ending (suc m) t (λ e. absurd (omega arith)))

shorter : (m : ℕ) (t : List ℕ) → length t < 3 → endings m t ≡ shape (ascii "Z") t
shorter zero t h = refl
shorter (suc m) t h = rw (other_ending (suc m) t (λ e. absurd (omega arith)), or-false) (shorter m t h)

own : (m k : ℕ) (t : List ℕ) → k ≤ m → 0 < k → length t ≡ k + 2 → endings m t ≡ shape (ending k) t
own zero k t h p e = absurd (omega arith)
own (suc m) k t h p e =
    by_test (eqb k (suc m))
    (λ q. rw (eqb-true k (suc m) q) (rw (longer m t (omega (arith, eqb-true k (suc m) q)))))
    (λ q.
    let n : k ≤ m = omega (arith, eqb-false k (suc m) q) in
    rw (other_ending (suc m) t (λ f. absurd (omega arith)), or-false) (own m k t n p e))

module _ (t : List ℕ) where
  pub ending_z : length t ≡ 1 → eqb (get_or t 0 0) 90 ≡ is_ending t
  unfolding is_ending
  ending_z h = sym (shorter 6 t (omega arith) ∙ in_runs true 0 z_runs t h)

  pub ending_none : length t < 1 → false ≡ is_ending t
  unfolding is_ending
  ending_none h = sym (shorter 6 t (omega arith) ∙ sym (other_length (ascii "Z") t (λ e. absurd (omega arith))))

  -- what is between the first byte and the last
  abbrev pub between : List ℕ
  between = take (length t - 1 - 1) (drop 1 t)

  pub ending_digits : {r : Bool} → 2 ≤ length t → r ≡ run_of Digit 1 6 between
      → (eqb (get_or t 0 0) 46 && r && eqb (get_or t (length t - 1) 0) 90) ≡ is_ending t
  unfolding is_ending
  ending_digits h e =
      let n : length between ≡ length t - 2 = omega (arith, length-take (length t - 1 - 1) (drop 1 t), length-drop 1 t) in
      let k : ℕ = length t - 2 in
      let last : length t - 1 ≡ 1 + k = omega arith in
      rw (e, n)
      (by_test (ltb (length t) 3)
      (λ p.
      let few : leb 1 (length t - 2) ≡ false = lt-leb 1 (length t - 2) (omega (arith, ltb-true (length t) 3 p)) in
      rw (few, and-false) (sym (shorter 6 t (ltb-true (length t) 3 p) ∙ sym (other_length (ascii "Z") t (λ f. absurd (omega arith))))))
      (λ p.
      let some : leb 1 (length t - 2) ≡ true = le-leb 1 (length t - 2) (omega (arith, ltb-false (length t) 3 p)) in
      by_test (ltb 8 (length t))
      (λ q.
      let many : leb (length t - 2) 6 ≡ false = lt-leb (length t - 2) 6 (omega (arith, ltb-true 8 (length t) q)) in
      rw (some, many, and-false) (sym (longer 6 t (ltb-true 8 (length t) q))))
      (λ q.
      let right : leb (length t - 2) 6 ≡ true = le-leb (length t - 2) 6 (omega (arith, ltb-false 8 (length t) q)) in
      let m : length t - 1 - 1 ≡ k = omega arith in
      let p3 : 3 ≤ length t = ltb-false (length t) 3 p in
      let q8 : length t ≤ 8 = ltb-false 8 (length t) q in
      rw (some, right, m, last)
      (sym (own 6 k t (omega arith) (omega arith) (omega arith) ∙ in_runs true 0 (fraction_runs k) t (omega arith))))))

-- a cell that is written as a moment, with its ending, has still to write a real day and time
module _ (s : List ℕ) where
  pub no_ending : length s < 20 → None ≡ when_of s
  unfolding when_of is_moment_cell is_ending shape
  no_ending h =
      let none : length s ≤ 19 = omega arith in
      rw (drop_of_length-le s none, and-false)

  pub not_written : (shape (ascii "dddd-dd-ddTdd:dd:dd") (take 19 s) && is_ending (drop 19 s)) ≡ false → None ≡ when_of s
  unfolding when_of is_moment_cell
  not_written e = rw e

  pub written : (shape (ascii "dddd-dd-ddTdd:dd:dd") (take 19 s) && is_ending (drop 19 s)) ≡ true → is_moment_cell s ≡ (is_day (day_written s) && is_time s)
  unfolding is_moment_cell
  written e = rw e
