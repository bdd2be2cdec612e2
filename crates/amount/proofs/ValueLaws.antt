-- Equal amounts. A decimal stands for its mantissa over 10 to the power of its places; two are compared multiplied out, so nothing is divided.
use mathlib.Core.Path.{◌≡◌, ◌∙◌, refl, sym, ap}
use mathlib.Core.Bool.{true, false, true≢false}
use mathlib.Core.Logic.{◌⊎◌, inl, inr, ⊎_elim}
use Prim.Native.Nat.{ℕ, zero, suc, ◌*◌, ◌^◌, ◌≤◌, ◌<◌}
use native.Mathlib.Nat.{pow-suc, one-le-pow, zero-mul, mul-one, mul-pos, mul_right_comm, mul_assoc, eq_of_mul-eq-mul_right}
use native.Mathlib.Omega.{arith}
use borrow.Author.Tests.{eqb-true, ne_eqb}
use lib.Dec.{eqb, lit<}
use lib.IntN.{ℤ, pos, negsuc, neg_ℤ, nat_abs, ◌*ℤ◌, neg_ℤ-neg_ℤ}
use lib.Signed.{non_neg}
use Rattle.amount.specs.declared.Decimal.{Decimal}
use Rattle.amount.specs.Decimal.{is_zero}
use Rattle.amount.specs.Signed.{negated}

pub record SameValue (d e : Decimal) : Type 0 where
  pub equal : d.mantissa *ℤ pos (10 ^ e.places) ≡ e.mantissa *ℤ pos (10 ^ d.places)

-- d has the value of e, and no decimal of that value has fewer places
pub record Fewest (d e : Decimal) : Type 0 where
  pub value : SameValue d e
  pub fewest : (c : Decimal) → SameValue c e → d.places ≤ c.places

-- no place, or a last digit that is not 0
pub record Short (d : Decimal) : Type 0 where
  pub last : (d.places ≡ 0) ⊎ ((k : ℕ) → nat_abs d.mantissa ≡ k * 10 → ⊥)

ten_above : (p : ℕ) → 0 < 10 ^ p
ten_above p = one-le-pow p 10 (lit< tt)

-- a signed number is its size and its sign, and a product with a number above zero has the sign of its first factor
size_of_negation : (n : ℕ) → nat_abs (neg_ℤ (pos n)) ≡ n
size_of_negation zero = refl
size_of_negation (suc n) = refl

size_of_product : (a : ℤ) (m : ℕ) → nat_abs (a *ℤ pos m) ≡ nat_abs a * m
size_of_product (pos a) m = refl
size_of_product (negsuc a) m = size_of_negation (suc a * m)

sign_of_product : (a : ℤ) (m : ℕ) → 0 < m → non_neg (a *ℤ pos m) ≡ non_neg a
sign_of_product (pos a) m h = refl
sign_of_product (negsuc a) m h = go (suc a * m) (mul-pos {m = suc a} {n = m} (omega arith) h)
  where
    go : (n : ℕ) → 0 < n → non_neg (neg_ℤ (pos n)) ≡ false
    go zero k = absurd (omega arith)
    go (suc n) k = refl

size_and_sign : (a b : ℤ) → nat_abs a ≡ nat_abs b → non_neg a ≡ non_neg b → a ≡ b
size_and_sign (pos a) (pos b) e f = ap pos e
size_and_sign (pos a) (negsuc b) e f = absurd (true≢false f)
size_and_sign (negsuc a) (pos b) e f = absurd (true≢false (sym f))
size_and_sign (negsuc a) (negsuc b) e f = ap negsuc (omega (arith, e))

record Alike (d e : Decimal) : Type 0 where
  size : nat_abs d.mantissa * 10 ^ e.places ≡ nat_abs e.mantissa * 10 ^ d.places
  sign : non_neg d.mantissa ≡ non_neg e.mantissa

module _ {d e : Decimal} where
  alike : SameValue d e → Alike d e
  alike h =
      record {
        size = sym (size_of_product d.mantissa (10 ^ e.places)) ∙ ap nat_abs h.equal ∙ size_of_product e.mantissa (10 ^ d.places);
        sign = sym (sign_of_product d.mantissa (10 ^ e.places) (ten_above e.places)) ∙ ap non_neg h.equal ∙ sign_of_product e.mantissa (10 ^ d.places) (ten_above d.places);
      }

  same_value : Alike d e → SameValue d e
  same_value h =
      record {
        equal =
            size_and_sign (d.mantissa *ℤ pos (10 ^ e.places)) (e.mantissa *ℤ pos (10 ^ d.places))
            (size_of_product d.mantissa (10 ^ e.places) ∙ h.size ∙ sym (size_of_product e.mantissa (10 ^ d.places)))
            (sign_of_product d.mantissa (10 ^ e.places) (ten_above e.places) ∙ h.sign ∙ sym (sign_of_product e.mantissa (10 ^ d.places) (ten_above d.places)));
      }

pub back : {d e : Decimal} → SameValue d e → SameValue e d
back h = record { equal = sym h.equal }

-- a over 10 ^ x is b over 10 ^ y, and that is c over 10 ^ z: with x, y, z the powers
across : (a b c x y z : ℕ) → 0 < y → a * y ≡ b * x → b * z ≡ c * y → a * z ≡ c * x
across a b c x y z h e f =
    eq_of_mul-eq-mul_right y h (a * z) (c * x) (mul_right_comm a z y ∙ ap (λ (n : ℕ). n * z) e ∙ mul_right_comm b x z ∙ ap (λ (n : ℕ). n * x) f ∙ mul_right_comm c y x)

pub through : {d e f : Decimal} → SameValue d e → SameValue e f → SameValue d f
through {d} {e} {f} h k =
    same_value
    (record {
      size = across (nat_abs d.mantissa) (nat_abs e.mantissa) (nat_abs f.mantissa) (10 ^ d.places) (10 ^ e.places) (10 ^ f.places) (ten_above e.places) (alike h).size (alike k).size;
      sign = (alike h).sign ∙ (alike k).sign;
    })

-- with a minus
negation_of_product : (a : ℤ) (m : ℕ) → neg_ℤ a *ℤ pos m ≡ neg_ℤ (a *ℤ pos m)
negation_of_product (pos zero) m = rw zero-mul
negation_of_product (pos (suc a)) m = refl
negation_of_product (negsuc a) m = sym (neg_ℤ-neg_ℤ (pos (suc a * m)))

pub negated_same : {d e : Decimal} → SameValue d e → SameValue (negated d) (negated e)
negated_same {d} {e} h = record { equal = negation_of_product d.mantissa (10 ^ e.places) ∙ ap neg_ℤ h.equal ∙ sym (negation_of_product e.mantissa (10 ^ d.places)) }

pub negated_short : {d : Decimal} → Short d → Short (negated d)
negated_short {d} h = record { last = ⊎_elim inl (λ l. inr (λ k e. l k (sym (same_size d.mantissa) ∙ e))) h.last }
  where
    same_size : (a : ℤ) → nat_abs (neg_ℤ a) ≡ nat_abs a
    same_size (pos n) = size_of_negation n
    same_size (negsuc n) = refl

-- a number whose last digit is not 0 needs all its places
fewest_places : (p q n m : ℕ) → n * 10 ^ q ≡ m * 10 ^ p → (p ≡ 0) ⊎ ((k : ℕ) → n ≡ k * 10 → ⊥) → p ≤ q
fewest_places zero q n m e h = omega arith
fewest_places (suc p) q n m e (inl h) = absurd (omega (arith, h))
fewest_places (suc p) zero n m e (inr h) = absurd (h (m * 10 ^ p) (sym (mul-one n) ∙ e ∙ ap (λ (x : ℕ). m * x) (pow-suc 10 p) ∙ sym (mul_assoc m (10 ^ p) 10)))
fewest_places (suc p) (suc q) n m e (inr h) =
    let less : n * 10 ^ q ≡ m * 10 ^ p = eq_of_mul-eq-mul_right 10 (lit< tt) (n * 10 ^ q) (m * 10 ^ p) (mul_assoc n (10 ^ q) 10 ∙ ap (λ (x : ℕ). n * x) (sym (pow-suc 10 q)) ∙ e ∙ ap (λ (x : ℕ). m * x) (pow-suc 10 p) ∙ sym (mul_assoc m (10 ^ p) 10)) in
    let smaller : p ≤ q = fewest_places p q n m less (inr h) in
    omega (arith, smaller)

pub short_fewest : {d e : Decimal} → SameValue d e → Short d → Fewest d e
short_fewest {d} {e} h s =
    record {
      value = h;
      fewest = λ c k. fewest_places d.places c.places (nat_abs d.mantissa) (nat_abs c.mantissa) (alike (through h (back k))).size s.last;
    }

pub no_size : (a : ℤ) → nat_abs a ≡ 0 → a ≡ pos 0
no_size (pos n) h = ap pos h
no_size (negsuc n) h = absurd (omega (arith, h))

-- of two decimals of one value both are zero or neither
pub same_zero : {d e : Decimal} → SameValue d e → is_zero d ≡ is_zero e
same_zero {d} {e} h = go (nat_abs d.mantissa) (nat_abs e.mantissa) (10 ^ e.places) (10 ^ d.places) (ten_above e.places) (ten_above d.places) (alike h).size
  where
    go : (a b x y : ℕ) → 0 < x → 0 < y → a * x ≡ b * y → eqb a 0 ≡ eqb b 0
    go zero zero x y p q f = refl
    go zero (suc b) x y p q f = absurd (omega (arith, f, zero-mul x, mul-pos {m = suc b} {n = y} (omega arith) q))
    go (suc a) zero x y p q f = absurd (omega (arith, f, zero-mul y, mul-pos {m = suc a} {n = x} (omega arith) p))
    go (suc a) (suc b) x y p q f = ne_eqb (suc a) 0 (λ z. omega (arith, z)) ∙ sym (ne_eqb (suc b) 0 (λ z. omega (arith, z)))

-- zero has no place and no sign
pub short_zero : (d : Decimal) → Short d → is_zero d ≡ true → d ≡ record { mantissa = pos 0; places = 0 }
short_zero d s e = λ i. record { mantissa = no_size d.mantissa none i; places = no_place i }
  where
    none : nat_abs d.mantissa ≡ 0
    none = eqb-true (nat_abs d.mantissa) 0 e

    no_place : d.places ≡ 0
    no_place = ⊎_elim (λ h. h) (λ h. absurd (h 0 (none ∙ sym (zero-mul 10)))) s.last

-- decimals with the fewest places are the same exactly if they are equal in value
module _ {c d e f : Decimal} (left : Fewest c d) (right : Fewest e f) where
  pub equal_one : SameValue d f → c ≡ e
  equal_one h =
      let places : c.places ≡ e.places = omega (arith, left.fewest e (through right.value (back h)), right.fewest c (through left.value h)) in
      let like : Alike c e = alike (through left.value (through h (back right.value))) in
      let size : nat_abs c.mantissa ≡ nat_abs e.mantissa = eq_of_mul-eq-mul_right (10 ^ e.places) (ten_above e.places) (nat_abs c.mantissa) (nat_abs e.mantissa) (like.size ∙ rw places) in
      λ i. record { mantissa = size_and_sign c.mantissa e.mantissa size like.sign i; places = places i }

  pub one_equal : c ≡ e → SameValue d f
  one_equal h = through (back left.value) (rw h right.value)
