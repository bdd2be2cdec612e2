-- The fewest decimal digits of a number are those of `last_digits`; and numbers behind spaces, one more at the end.
use mathlib.Core.Path.{◌≡◌, refl, sym}
use mathlib.Core.Bool.{Bool, true, false, cond}
use mathlib.Core.List.{List, [], ◌∷◌, ◌++◌, append-nil, append_assoc}
use Prim.Native.Nat.{ℕ, zero, suc, ◌+◌, ◌*◌, ◌-◌, ◌/◌, ◌%◌, ◌^◌, ◌≤◌, ◌<◌}
use native.Mathlib.Omega.{arith}
use native.Mathlib.Nat.{pow-succ', pow-le-pow_right}
use lib.Dec.{ltb, leb}
use lib.ListN.{length, length-append}
use borrow.Author.Tests.{lt-ltb, le-ltb, leb-true, leb-false}
use Rattle.text.proofs.Bools.{by_test}
use Rattle.io.specs.Digits.{last_digits, IsDigitCount, hex_digit_ascii}
use Rattle.verdict.specs.Codes.{code_count}
use Rattle.buffer.specs.Text.{added}
use Rattle.buffer.proofs.KeptLaws.{Joins}
use Rattle.buffer.proofs.TextLaws.{added_on}
use Rattle.printing.specs.Printed.{digits_of, decimal, spaced, printed, longest}

glyph_digit : (n : ℕ) → hex_digit_ascii (n % 10) ≡ 48 + n % 10
glyph_digit n = rw (lt-ltb (n % 10) 10 (omega arith))

-- the power of ten that is one digit more
more : (j : ℕ) → 10 ^ suc j ≡ 10 * 10 ^ j
more j = pow-succ' 10 j

one_le : (j : ℕ) → 1 ≤ 10 ^ j
one_le zero = omega arith
one_le (suc j) = rw (more j) (omega (arith, one_le j))

-- a number of 64 bits has at most 20 digits
pub few_short : (n k : ℕ) → n < 2 ^ 64 → IsDigitCount 10 1 n k → k ≤ 20
few_short n k small few =
    by_test (leb k 20) (leb-true k 20)
    (λ e.
    let long : 20 ≤ k - 1 = omega (arith, leb-false k 20 e) in
    let high : 10 ^ 20 ≤ 10 ^ (k - 1) = pow-le-pow_right (omega arith) long in
    absurd (omega (arith, few.2 (omega arith))))

pub digits_few : (f k n : ℕ) → k ≤ f → IsDigitCount 10 1 n k → last_digits 10 k n ≡ digits_of f n
unfolding digits_of
digits_few f zero n h few = absurd (omega (arith, few.0))
digits_few zero (suc k) n h few = absurd (omega arith)
digits_few (suc f) (suc zero) n h few =
    let small : n < 10 = few.1 in
    let same : n % 10 ≡ n = omega arith in
    rw (lt-ltb n 10 small, same, lt-ltb n 10 small)
digits_few (suc f) (suc (suc j)) n h few =
    let below : n < 10 * 10 ^ suc j = rw (more (suc j)) at few.1 in
    let last : suc (suc j) - 1 ≡ suc j = omega arith in
    let large : 10 ^ suc j ≤ n = rw last at (few.2 (omega arith)) in
    let ten : 10 ≤ n = (let e : 10 ^ suc j ≡ 10 * 10 ^ j = more j in omega (arith, one_le j)) in
    let rest : IsDigitCount 10 1 (n / 10) (suc j) = (omega arith, omega arith, λ k. let e : 10 ^ suc j ≡ 10 * 10 ^ j = more j in let before : suc j - 1 ≡ j = omega arith in rw before (omega arith)) in
    rw (le-ltb n 10 ten, glyph_digit n, digits_few f (suc j) (n / 10) (omega arith) rest)

pub spaced_join : Joins spaced
unfolding spaced
spaced_join = record { none = refl; joined = go }
  where
    go : (xs ys : List ℕ) → spaced (xs ++ ys) ≡ spaced xs ++ spaced ys
    go [] ys = refl
    go (x ∷ xs) ys = rw (go xs ys) (sym (append_assoc (32 ∷ decimal x) (spaced xs) (spaced ys)))

-- a space, then the number
pub spaced_one : (room : ℕ) (before : List ℕ) {mid after : List ℕ} (x : ℕ) → mid ≡ added room before (32 ∷ []) → after ≡ added room mid (decimal x)
    → after ≡ added room before (spaced (x ∷ []))
unfolding spaced
spaced_one room before x p q = rw append-nil (added_on room before (32 ∷ []) (decimal x) p q)

-- no more digits than f, and so no more bytes than 21 for each number behind a space
digits_short : (f n : ℕ) → length (digits_of f n) ≤ f
unfolding digits_of
digits_short zero n = omega arith
digits_short (suc f) n = either (digits_short f (n / 10)) (ltb n 10)
  where
    either : length (digits_of f (n / 10)) ≤ f → (t : Bool) → length (cond t ((48 + n) ∷ []) (digits_of f (n / 10) ++ ((48 + n % 10) ∷ []))) ≤ suc f
    either h true = omega arith
    either h false = rw length-append (omega arith)

pub decimal_short : (n : ℕ) → length (decimal n) ≤ 20
decimal_short n = digits_short 20 n

-- nor more than the power of ten that it is under
pub digits_under : (f k n : ℕ) → n < 10 ^ suc k → length (digits_of f n) ≤ suc k
unfolding digits_of
digits_under zero k n h = omega arith
digits_under (suc f) zero n h = rw (lt-ltb n 10 h) (omega arith)
digits_under (suc f) (suc k) n h =
    by_test (ltb n 10) (λ t. rw t (omega arith))
    (λ t.
    let below : n < 10 * 10 ^ suc k = rw (more (suc k)) at h in
    rw (t, length-append) (omega (arith, digits_under f k (n / 10) (omega arith))))

pub spaced_short : (ns : List ℕ) → length (spaced ns) ≤ 21 * length ns
unfolding spaced
spaced_short [] = omega arith
spaced_short (n ∷ ns) = rw length-append (omega (arith, digits_short 20 n, spaced_short ns))

pub printed_short : (number answer count : ℕ) (codes : List ℕ) → length codes ≤ code_count → length (printed number answer count codes) ≤ longest
unfolding printed
printed_short number answer count codes h =
    simp length-append (omega (arith, digits_short 20 number, spaced_short (answer ∷ count ∷ codes)))
