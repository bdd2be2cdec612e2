-- Equal amounts have one form: what is read of a text has the value that is written, in the fewest places.
use mathlib.Core.Path.{◌≡◌, ◌∙◌, refl, sym}
use mathlib.Core.Bool.{Bool, true, false, cond, not, ◌&&◌}
use mathlib.Core.List.{List, [], ◌∷◌}
use mathlib.Core.Logic.{⊎_elim}
use Prim.Native.Nat.{ℕ, ◌+◌, ◌≤◌}
use native.Mathlib.Omega.{arith}
use borrow.Author.Tests.{eqb-true, ne_eqb}
use lib.Dec.{leb, eqb, lit≤}
use lib.IntN.{pos}
use lib.ListN.{length, drop, drop_of_length-le}
use Rattle.text.specs.Ascii.{ascii}
use Rattle.text.specs.declared.classes.Class.TheVariants.{Digit}
use Rattle.text.specs.Class.{all_of, run_of}
use Rattle.text.specs.Word.{same, starts_with}
use Rattle.text.proofs.Bools.{and_left, and_right, or_cases, by_test}
use Rattle.amount.specs.declared.Decimal.{Decimal}
use Rattle.std.proofs.Common.{Option, Some, None}
use Rattle.amount.specs.declared.Price.{Price}
use Rattle.amount.specs.declared.Price.TheVariants.{Pending, NotApplicable, Percent, Money, Yield, BasisPoints, Malformed as NoPrice}
use Rattle.amount.specs.declared.Quantity.{Quantity}
use Rattle.amount.specs.declared.Quantity.TheVariants.{Units, Nominal, Monetary, Malformed as NoQuantity}
use Rattle.amount.specs.Decimal.{point_at, whole, decimals, is_decimal, digits_of, fewest_decimals, decimal_of, value_of, is_zero, tagged}
use Rattle.amount.specs.Signed.{behind_sign, is_signed, negated, signed_value_of, signed_of}
use Rattle.amount.specs.Price.{money_of, price_of}
use Rattle.amount.specs.Quantity.{quantity_of, quantity_kind}
use Rattle.amount.proofs.ValueLaws.{SameValue, Fewest, Short, short_fewest, equal_one, one_equal, negated_same, negated_short, same_zero, short_zero}
use Rattle.amount.proofs.LastZeros.{digits_same, digits_short}
use Rattle.amount.proofs.DecimalLaws.{whole_length, few_digits}

-- what a text writes: all its digits, those behind the point as places, below zero for a minus
abbrev pub written : List ℕ → Decimal
written s = decimal_of (whole s) (decimals s)

abbrev pub signed_written : List ℕ → Decimal
signed_written s = cond (starts_with (ascii "-") s) (negated (written (behind_sign s))) (written (behind_sign s))

-- what stands behind the point of D(n, f, m) are digits
decimal_digits : (n f m : ℕ) (s : List ℕ) → is_decimal n f m s ≡ true → all_of Digit (decimals s) ≡ true
unfolding is_decimal decimals all_of
decimal_digits n f m s e = ⊎_elim none pointed (or_cases (eqb (length (whole s)) (length s)) _ (and_right (run_of Digit 1 n (whole s)) _ e))
  where
    none : eqb (length (whole s)) (length s) ≡ true → all_of Digit (decimals s) ≡ true
    none t =
        let past : length s ≤ point_at s + 1 = omega (arith, whole_length s, eqb-true (length (whole s)) (length s) t) in
        rw (drop_of_length-le s past)

    pointed : (leb (length s) m && run_of Digit 0 f (decimals s)) ≡ true → all_of Digit (decimals s) ≡ true
    pointed t = and_right (leb 0 (length (decimals s)) && leb (length (decimals s)) f) _ (and_right (leb (length s) m) _ t)

-- s is D(n, f, m), or that behind a sign, at widths that hold no more than 18 digits, as all do that the paper uses
pub record InUse (form : ℕ → ℕ → ℕ → List ℕ → Bool) (s : List ℕ) : Type 0 where
  pub n : ℕ
  pub f : ℕ
  pub m : ℕ
  pub is : form n f m s ≡ true
  pub few : n ≤ 18
  pub short : m ≤ 19

module _ {s : List ℕ} (u : InUse is_decimal s) where
  few : length (digits_of s) ≤ 18
  few = few_digits u.n u.f u.m s u.is u.few u.short

  value_same : SameValue (value_of s) (written s)
  unfolding value_of fewest_decimals digits_of
  value_same = digits_same (whole s) (decimals s) few (decimal_digits u.n u.f u.m s u.is)

  value_short : Short (value_of s)
  unfolding value_of fewest_decimals digits_of
  value_short = digits_short (whole s) (decimals s) few (decimal_digits u.n u.f u.m s u.is)

  pub value_fewest : Fewest (value_of s) (written s)
  value_fewest = short_fewest value_same value_short

  -- it is zero exactly if the digits write zero
  pub zero_written : is_zero (value_of s) ≡ is_zero (written s)
  zero_written = same_zero value_same

  pub zero_form : is_zero (written s) ≡ true → value_of s ≡ record { mantissa = pos 0; places = 0 }
  zero_form e = short_zero (value_of s) value_short (zero_written ∙ e)

module _ {s : List ℕ} (u : InUse is_signed s) where
  behind : InUse is_decimal (behind_sign s)
  unfolding is_signed
  behind = record { n = u.n; f = u.f; m = u.m; is = u.is; few = u.few; short = u.short }

  signed_same : SameValue (signed_value_of s) (signed_written s)
  unfolding signed_value_of
  signed_same = go (starts_with (ascii "-") s)
    where
      go : (t : Bool) → SameValue (cond t (negated (value_of (behind_sign s))) (value_of (behind_sign s))) (cond t (negated (written (behind_sign s))) (written (behind_sign s)))
      go true = negated_same (value_same behind)
      go false = value_same behind

  signed_value_short : Short (signed_value_of s)
  unfolding signed_value_of
  signed_value_short = go (starts_with (ascii "-") s)
    where
      go : (t : Bool) → Short (cond t (negated (value_of (behind_sign s))) (value_of (behind_sign s)))
      go true = negated_short (value_short behind)
      go false = value_short behind

  pub signed_fewest : Fewest (signed_value_of s) (signed_written s)
  signed_fewest = short_fewest signed_same signed_value_short

  pub signed_zero_form : is_zero (signed_written s) ≡ true → signed_value_of s ≡ record { mantissa = pos 0; places = 0 }
  signed_zero_form e = short_zero (signed_value_of s) signed_value_short (same_zero signed_same ∙ e)

-- two texts give the same decimal exactly if they are equal in value
pub one_form : {s t : List ℕ} → InUse is_decimal s → InUse is_decimal t → (SameValue (written s) (written t) → value_of s ≡ value_of t) × (value_of s ≡ value_of t → SameValue (written s) (written t))
one_form u v = (equal_one (value_fewest u) (value_fewest v), one_equal (value_fewest u) (value_fewest v))

pub signed_one_form : {s t : List ℕ} → InUse is_signed s → InUse is_signed t → (SameValue (signed_written s) (signed_written t) → signed_value_of s ≡ signed_value_of t) × (signed_value_of s ≡ signed_value_of t → SameValue (signed_written s) (signed_written t))
signed_one_form u v = (equal_one (signed_fewest u) (signed_fewest v), one_equal (signed_fewest u) (signed_fewest v))

-- what is asked of the decimal that an amount, a price, a quantity carries
abbrev pub InSigned : (Decimal → Type 0) → Option Decimal → Type 0
InSigned P (Some d) = P d
InSigned P None = Unit {0}

abbrev pub InPrice : (Decimal → Type 0) → Price → Type 0
InPrice P Pending = Unit {0}
InPrice P NotApplicable = Unit {0}
InPrice P (Percent d) = P d
InPrice P (Money d) = P d
InPrice P (Yield d) = P d
InPrice P (BasisPoints d) = P d
InPrice P NoPrice = Unit {0}

abbrev pub InQuantity : (Decimal → Type 0) → Quantity → Type 0
InQuantity P (Units d) = P d
InQuantity P (Nominal d) = P d
InQuantity P (Monetary d) = P d
InQuantity P NoQuantity = Unit {0}

chosen : {A : Type 0} (P : A → Type 0) (t : Bool) {x y : A} → (t ≡ true → P x) → P y → P (cond t x y)
chosen P true p q = p refl
chosen P false p q = q

tag_in_use : (n f m : ℕ) (word s : List ℕ) → tagged word n f m s ≡ true → n ≤ 18 → m ≤ 19 → InUse is_decimal (drop (length word) s)
unfolding tagged
tag_in_use n f m word s e h k = record { n = n; f = f; m = m; is = and_right (starts_with word s) _ e; few = h; short = k }

tagged_short : (n f m : ℕ) (word s : List ℕ) → tagged word n f m s ≡ true → n ≤ 18 → m ≤ 19 → Short (value_of (drop (length word) s))
tagged_short n f m word s e h k = value_short (tag_in_use n f m word s e h k)

-- each is in its one form
pub signed_short : (f : ℕ) (s : List ℕ) → InSigned Short (signed_of f s)
unfolding signed_of
signed_short f s = chosen (InSigned Short) (is_signed 18 f 19 s) (λ e. signed_value_short (record { n = 18; f = f; m = 19; is = e; few = lit≤ tt; short = lit≤ tt })) tt

pub price_short : (s : List ℕ) → InPrice Short (price_of s)
unfolding price_of
price_short s =
    chosen (InPrice Short) (same (ascii "PNDG") s) (λ e. tt)
    (chosen (InPrice Short) (same (ascii "NOAP") s) (λ e. tt)
    (chosen (InPrice Short) (tagged (ascii "PC:") 11 10 19 s) (λ e. tagged_short 11 10 19 (ascii "PC:") s e (lit≤ tt) (lit≤ tt))
    (chosen (InPrice Short) (starts_with (ascii "MV:") s) (λ e. money (signed_of 13 (drop 3 s)) (signed_short 13 (drop 3 s)))
    (chosen (InPrice Short) (tagged (ascii "YLD:") 11 10 12 s) (λ e. tagged_short 11 10 12 (ascii "YLD:") s e (lit≤ tt) (lit≤ tt))
    (chosen (InPrice Short) (tagged (ascii "BP:") 18 17 19 s) (λ e. tagged_short 18 17 19 (ascii "BP:") s e (lit≤ tt) (lit≤ tt)) tt)))))
  where
    money : (x : Option Decimal) → InSigned Short x → InPrice Short (money_of x)
    money (Some d) p = p
    money None p = tt

pub quantity_short : (s : List ℕ) → InQuantity Short (quantity_of s)
unfolding quantity_of
quantity_short s =
    chosen (InQuantity Short) (tagged (ascii "UNT:") 18 17 19 s)
    (λ e. chosen (InQuantity Short) (is_zero (value_of (drop 4 s))) (λ z. tt) (tagged_short 18 17 19 (ascii "UNT:") s e (lit≤ tt) (lit≤ tt)))
    (chosen (InQuantity Short) (tagged (ascii "NOM:") 18 5 19 s) (λ e. tagged_short 18 5 19 (ascii "NOM:") s e (lit≤ tt) (lit≤ tt))
    (chosen (InQuantity Short) (tagged (ascii "MON:") 18 5 19 s) (λ e. tagged_short 18 5 19 (ascii "MON:") s e (lit≤ tt) (lit≤ tt)) tt))

-- a text that opens with one letter opens with no word of another
other_tag : (x y n f m : ℕ) (v w s : List ℕ) → (x ≡ y → ⊥) → starts_with (x ∷ v) s ≡ true → tagged (y ∷ w) n f m s ≡ false
unfolding tagged starts_with
other_tag x y n f m v w [] h e = refl
other_tag x y n f m v w (b ∷ s) h e =
    let here : b ≡ x = eqb-true b x (and_left (eqb b x) _ e) in
    rw (ne_eqb b y (λ p. h (sym here ∙ p)))

-- the kind of a quantity goes by what is written: UNT: and not zero, NOM:, MON:
pub quantity_kinds : (s : List ℕ) → quantity_kind (quantity_of s) ≡ cond (tagged (ascii "UNT:") 18 17 19 s && not (is_zero (written (drop 4 s)))) 2 (cond (tagged (ascii "NOM:") 18 5 19 s) 3 (cond (tagged (ascii "MON:") 18 5 19 s) 4 0))
unfolding quantity_of tagged
quantity_kinds s =
    by_test (tagged (ascii "UNT:") 18 17 19 s)
    (λ e. rw (e, zero_written (tag_in_use 18 17 19 (ascii "UNT:") s e (lit≤ tt) (lit≤ tt)), no_nominal e, no_monetary e) (units (is_zero (written (drop 4 s)))))
    (λ e. rw e (others (tagged (ascii "NOM:") 18 5 19 s) (tagged (ascii "MON:") 18 5 19 s)))
  where
    no_nominal : tagged (ascii "UNT:") 18 17 19 s ≡ true → tagged (ascii "NOM:") 18 5 19 s ≡ false
    no_nominal e = other_tag 85 78 18 5 19 _ _ s (λ p. omega (arith, p)) (and_left (starts_with (ascii "UNT:") s) _ e)

    no_monetary : tagged (ascii "UNT:") 18 17 19 s ≡ true → tagged (ascii "MON:") 18 5 19 s ≡ false
    no_monetary e = other_tag 85 77 18 5 19 _ _ s (λ p. omega (arith, p)) (and_left (starts_with (ascii "UNT:") s) _ e)

    units : (t : Bool) → quantity_kind (cond t NoQuantity (Units (value_of (drop 4 s)))) ≡ cond (not t) 2 0
    units true = refl
    units false = refl

    others : (t u : Bool) → quantity_kind (cond t (Nominal (value_of (drop 4 s))) (cond u (Monetary (value_of (drop 4 s))) NoQuantity)) ≡ cond t 3 (cond u 4 0)
    others true u = refl
    others false true = refl
    others false false = refl
