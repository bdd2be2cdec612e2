-- The remainder by 97, several digits at a time: how many fit in 64 bits, and that what is left is that of the whole.
use mathlib.Core.Path.{◌≡◌, ◌∙◌, sym, refl, ap}
use mathlib.Core.Bool.{Bool, true, false, cond}
use mathlib.Core.List.{List, [], ◌∷◌, ◌++◌, append-nil}
use Prim.Native.Nat.{ℕ, zero, suc, ◌+◌, ◌*◌, ◌/◌, ◌%◌, ◌^◌, ◌≤◌, ◌<◌}
use native.Mathlib.Nat.{add-zero, zero-add, add-suc, mul-one, mul_assoc, pow-zero, pow-suc, mul-le-mul_left, mod-lt, mod-mod, add-mul-mod_self_right}
use native.Mathlib.Omega.{arith}
use borrow.Author.Tests.{ltb-true, ltb-false}
use lib.Dec.{ltb, lit<}
use lib.ListN.{length, get_or, take, drop, length-append, length-take, length-drop, take-append-drop}
use lib.Seq.{drop-drop, take_all, take-append-add, length-take-le}
use Rattle.text.proofs.Lists.{rest_at}
use Rattle.text.proofs.NumberLaws.{ten_grows}
use Rattle.ident.specs.Written.{value_of, digits_of, written_digits, decimal, written}
use Rattle.ident.proofs.WrittenLaws.{value_small, decimal_append, decimal_on}

ten_add : (m n : ℕ) → 10 ^ (m + n) ≡ 10 ^ m * 10 ^ n
ten_add m zero = rw (add-zero, pow-zero, mul-one)
ten_add m (suc n) = rw (add-suc, pow-suc 10 (m + n), pow-suc 10 n, ten_add m n, mul_assoc)

-- by the digits of one character
by_digits : (P : List ℕ → Type 0) (v : ℕ) → (v < 10 → P (v ∷ [])) → (10 ≤ v → P (v / 10 ∷ v % 10 ∷ [])) → P (digits_of v)
unfolding digits_of
by_digits P v one two = go (ltb v 10) refl
  where
    go : (t : Bool) → ltb v 10 ≡ t → P (cond t (v ∷ []) (v / 10 ∷ v % 10 ∷ []))
    go true e = one (ltb-true v 10 e)
    go false e = two (ltb-false v 10 e)

-- a character writes two digits at most
two_each : (s : List ℕ) → length (written_digits s) ≤ 2 * length s
unfolding written_digits
two_each [] = omega arith
two_each (b ∷ s) = rw length-append (omega (arith, two_each s, few (value_of b)))
  where
    few : (v : ℕ) → length (digits_of v) ≤ 2
    few v = by_digits (λ ds. length ds ≤ 2) v (λ h. omega arith) (λ h. omega arith)

-- behind a number below m, digits write one below m with ten for each of them
below : (m k : ℕ) (s : List ℕ) → k < m → decimal k (written_digits s) < m * 10 ^ length (written_digits s)
unfolding written_digits decimal
below m k [] h = rw (pow-zero, mul-one) h
below m k (b ∷ s) h =
    let ds : List ℕ = digits_of (value_of b) in
    rw (decimal_append k ds (written_digits s), length-append, ten_add, sym (mul_assoc m (10 ^ length ds) (10 ^ length (written_digits s))))
    (below (m * 10 ^ length ds) (decimal k ds) s (first (value_of b) (value_small b)))
  where
    first : (v : ℕ) → v < 36 → decimal k (digits_of v) < m * 10 ^ length (digits_of v)
    first v l = by_digits (λ ds. decimal k ds < m * 10 ^ length ds) v (λ e. omega arith) (λ e. omega arith)

-- The law of n digits at a time, for each n: behind a number below m they write one below m with n zeros.
pub digits_below : (m n k : ℕ) (s : List ℕ) → k < m → length (written_digits s) ≤ n → decimal k (written_digits s) < m * 10 ^ n
digits_below m n k s h l = omega (arith, below m k s h, mul-le-mul_left m (ten_grows (length (written_digits s)) n l))

-- behind a remainder by 97 there is room for 17 digits in 64 bits, and not for 18
pub room_for_17 : 97 * 10 ^ 17 ≤ 2 ^ 64
room_for_17 = omega arith

pub none_for_18 : 2 ^ 64 < 97 * 10 ^ 18
none_for_18 = omega arith

-- c characters at a time, which are 2c digits at most
pub characters_below : (m c k : ℕ) (s : List ℕ) → k < m → length s ≤ c → decimal k (written_digits s) < m * 10 ^ (2 * c)
characters_below m c k s h l = digits_below m (2 * c) k s h (omega (arith, two_each s))

-- the digits of one character behind k
pub character_on : (s : List ℕ) (i k : ℕ) {r : ℕ} → i < length s → r ≡ decimal k (digits_of (value_of (get_or s i 0))) → r ≡ decimal k (written_digits (take 1 (drop i s)))
unfolding written_digits
character_on s i k h e = e ∙ rw (rest_at 0 s i h, append-nil (digits_of (value_of (get_or s i 0))))

-- those of two parts, one after the other
module _ (m : ℕ) (s : List ℕ) (i k : ℕ) {v : ℕ} (h : i + m ≤ length s) (e : v ≡ decimal k (written_digits (take m (drop i s)))) where
  together : (n : ℕ) → take m (drop i s) ++ take n (drop (i + m) s) ≡ take (m + n) (drop i s)
  together n =
      let x : List ℕ = drop i s in
      let l : length (take m x) ≡ m = length-take-le m x (rw length-drop (omega arith)) in
      rw (sym (drop-drop m i s)) (sym (take-append-add (take m x) (drop m x) n) ∙ rw (l, take-append-drop m x))

  pub parts_on : (n : ℕ) {w : ℕ} → w ≡ decimal v (written_digits (take n (drop (i + m) s))) → w ≡ decimal k (written_digits (take (m + n) (drop i s)))
  parts_on n f = rw (sym (together n), sym (decimal_on k (take m (drop i s)) (take n (drop (i + m) s))), sym e) f

  pub part_below : (b : ℕ) → k < b → v < b * 10 ^ (2 * m)
  part_below b l = rw e (characters_below b m k (take m (drop i s)) l (rw length-take (omega arith)))

-- v is what the characters before place i write behind k
pub record BehindSoFar (k : ℕ) (s : List ℕ) (v i : ℕ) : Type 0 where
  pub within : i ≤ length s
  pub so_far : v ≡ decimal k (written_digits (take i s))

pub behind_none : {k : ℕ} {s : List ℕ} → BehindSoFar k s k 0
unfolding written_digits decimal
behind_none = record { within = omega arith; so_far = refl }

module _ {k : ℕ} {s : List ℕ} {v i : ℕ} (before : BehindSoFar k s v i) where
  pub room_behind : k < 97 → length s ≤ 8 → i < length s → v < 97 * 10 ^ 15
  room_behind h l m = rw before.so_far (omega (arith, characters_below 97 7 k (take i s) h (omega (arith, length-take-le i s before.within))))

  pub behind_on : {r : ℕ} → i < length s → r ≡ decimal v (digits_of (value_of (get_or s i 0))) → BehindSoFar k s r (i + 1)
  behind_on h e =
      record {
        within = omega arith;
        so_far = parts_on i s 0 k (omega arith) before.so_far 1 (rw (zero-add i) (character_on s i v h e));
      }

  pub behind_all : length s ≤ i → v ≡ decimal k (written_digits s)
  behind_all h = rw (take_all i s h) at before.so_far

-- what stands before counts by 97
remainder_step : (k d : ℕ) → (k % 97 * 10 + d) % 97 ≡ (k * 10 + d) % 97
remainder_step k d =
    let e : k * 10 + d ≡ (k % 97 * 10 + d) + k / 97 * 10 * 97 = omega arith in
    rw e (sym (add-mul-mod_self_right (k % 97 * 10 + d) (k / 97 * 10) 97))

decimal_remainder : (k : ℕ) (ds : List ℕ) → decimal (k % 97) ds % 97 ≡ decimal k ds % 97
unfolding decimal
decimal_remainder k [] = mod-mod k 97
decimal_remainder k (d ∷ ds) =
    sym (decimal_remainder (k % 97 * 10 + d) ds)
    ∙ ap (λ (n : ℕ). decimal n ds % 97) (remainder_step k d)
    ∙ decimal_remainder (k * 10 + d) ds

-- k is what the characters before place i leave
pub record LeftSoFar (s : List ℕ) (k i : ℕ) : Type 0 where
  pub within : i ≤ length s
  pub small : k < 97
  pub left : decimal k (written_digits (drop i s)) % 97 ≡ written s % 97

pub left_start : {s : List ℕ} → LeftSoFar s 0 0
left_start = record { within = omega arith; small = omega arith; left = refl }

module _ {s : List ℕ} {k i : ℕ} (so_far : LeftSoFar s k i) where
  -- however many characters are taken at a time
  pub left_on : (n : ℕ) {w : ℕ} → i + n ≤ length s → w ≡ decimal k (written_digits (take n (drop i s))) → LeftSoFar s (w % 97) (i + n)
  left_on n {w} h e =
      let t : List ℕ = take n (drop i s) in
      let on : List ℕ = drop (i + n) s in
      let p : t ++ on ≡ drop i s = rw (sym (drop-drop n i s)) (take-append-drop n (drop i s)) in
      record {
        within = h;
        small = mod-lt w (lit< tt);
        left =
            decimal_remainder w (written_digits on)
            ∙ ap (λ (m : ℕ). decimal m (written_digits on) % 97) e
            ∙ ap (λ (m : ℕ). m % 97) (decimal_on k t on)
            ∙ rw p so_far.left;
      }

  pub left_end : {v : ℕ} → v ≡ decimal k (written_digits (drop i s)) → v % 97 ≡ written s % 97
  left_end e = ap (λ (n : ℕ). n % 97) e ∙ so_far.left
