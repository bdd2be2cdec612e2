-- The syntax of RFC 3629 section 4 counts what section 3 encodes.
use Prim.Native.Nat.{ℕ, zero, suc, ◌+◌, ◌*◌, ◌-◌, ◌/◌, ◌%◌, ◌≤◌, ◌<◌}
use mathlib.Core.Path.{◌≡◌, refl, sym, ◌∙◌, ap}
use mathlib.Core.Bool.{Bool, true, false, cond}
use mathlib.Core.List.{List, [], ◌∷◌, ◌++◌}
use native.Mathlib.Omega.{arith}
use native.Mathlib.Nat.{add-zero}
use lib.Dec.{leb}
use lib.ListN.{length, take}
use borrow.Author.Tests.{le-leb, lt-leb, leb-true, leb-false}
use Rattle.text.proofs.Bools.{and_left, and_right, by_test}
use Rattle.utf8.specs.declared.Next.{Next}
use Rattle.utf8.specs.declared.Next.TheVariants.{First, Tail, Never}
use Rattle.std.proofs.Common.{Option, Some, None}
use Rattle.utf8.specs.Abnf.{Row, upto, look, rows, first, within, awaited, after, counted, points, count_within, points_within}
use Rattle.utf8.specs.Rfc3629.{encode, Allowed, AllAllowed, text, TextOf, Meaning}
use Rattle.utf8.proofs.Laws.{inside, below, reach, following, hits}

by_le : {A : Type 0} (a b : ℕ) → (a ≤ b → A) → (b < a → A) → A
by_le a b f g = by_test (leb a b) (λ e. f (leb-true a b e)) (λ e. g (leb-false a b e))

-- The bytes of a code point as numbers: a line of the table each.
record Two (c b x : ℕ) : Type 0 where
  sum : c + 0x3080 ≡ b * 0x40 + x
  tails : (0x80 ≤ x) × (x ≤ 0xBF)
  range : (0x80 ≤ c) × (c ≤ 0x7FF)

record Three (c b x y : ℕ) : Type 0 where
  sum : c + 0xE2080 ≡ b * 0x1000 + x * 0x40 + y
  tails : (0x80 ≤ x) × (x ≤ 0xBF) × (0x80 ≤ y) × (y ≤ 0xBF)
  range : (0x800 ≤ c) × (c ≤ 0xFFFF)

record Four (c b x y z : ℕ) : Type 0 where
  sum : c + 0x3C82080 ≡ b * 0x40000 + x * 0x1000 + y * 0x40 + z
  tails : (0x80 ≤ x) × (x ≤ 0xBF) × (0x80 ≤ y) × (y ≤ 0xBF) × (0x80 ≤ z) × (z ≤ 0xBF)
  range : (0x10000 ≤ c) × (c ≤ 0x10FFFF)

one_byte : {c : ℕ} → c ≤ 0x7F → encode c ≡ c ∷ []
unfolding encode
one_byte {c} h = rw (le-leb c 0x7F h)

two_bytes : {c b x : ℕ} → Two c b x → encode c ≡ b ∷ x ∷ []
unfolding encode
two_bytes {c} {b} {x} t =
    let p : 0xC0 + c / 0x40 ≡ b = omega arith in
    let q : 0x80 + c % 0x40 ≡ x = omega arith in
    rw (lt-leb c 0x7F (omega arith), le-leb c 0x7FF (omega arith), p, q)

three_bytes : {c b x y : ℕ} → Three c b x y → encode c ≡ b ∷ x ∷ y ∷ []
unfolding encode
three_bytes {c} {b} {x} {y} t =
    let p : 0xE0 + c / 0x1000 ≡ b = omega arith in
    let q : 0x80 + c / 0x40 % 0x40 ≡ x = omega arith in
    let r : 0x80 + c % 0x40 ≡ y = omega arith in
    rw (lt-leb c 0x7F (omega arith), lt-leb c 0x7FF (omega arith), le-leb c 0xFFFF (omega arith), p, q, r)

four_bytes : {c b x y z : ℕ} → Four c b x y z → encode c ≡ b ∷ x ∷ y ∷ z ∷ []
unfolding encode
four_bytes {c} {b} {x} {y} {z} t =
    let p : 0xF0 + c / 0x40000 ≡ b = omega arith in
    let q : 0x80 + c / 0x1000 % 0x40 ≡ x = omega arith in
    let r : 0x80 + c / 0x40 % 0x40 ≡ y = omega arith in
    let u : 0x80 + c % 0x40 ≡ z = omega arith in
    rw (lt-leb c 0x7F (omega arith), lt-leb c 0x7FF (omega arith), lt-leb c 0xFFFF (omega arith), p, q, r, u)

abbrev value3 : ℕ → ℕ → ℕ → ℕ
value3 b x y = b * 0x1000 + x * 0x40 + y - 0xE2080

abbrev value4 : ℕ → ℕ → ℕ → ℕ → ℕ
value4 b x y z = b * 0x40000 + x * 0x1000 + y * 0x40 + z - 0x3C82080

-- By the rows of the syntax: what holds of each row, for the bytes of its range, holds of what may follow a byte.
module _ (P : Next → Type 0) (b : ℕ) where
  abbrev EachRow : Type 0 → ℕ → List Row → Type 0
  EachRow A low [] = A
  EachRow A low (upto most next ∷ rows) = (low ≤ b → b ≤ most → P next) → EachRow A (suc most) rows

  known : {A : Type 0} (low : ℕ) (rows : List Row) → A → EachRow A low rows
  known low [] a = a
  known low (upto most next ∷ rows) a = λ f. known (suc most) rows a

  by_rows : {A : Type 0} (low : ℕ) (rows : List Row) → low ≤ b → P Never → (P (look rows b) → A) → EachRow A low rows
  unfolding look
  by_rows low [] l v k = k v
  by_rows low (upto most next ∷ rows) l v k = λ f.
      by_le b most (λ h. known (suc most) rows (k (rw (le-leb b most h) (f l h))))
      (λ h. by_rows (suc most) rows h v (λ p. k (rw (lt-leb b most h) p)))

-- s is the text of the code points that are counted from n to m
record From (n m : ℕ) (s : List ℕ) : Type 0 where
  codes : List ℕ
  many : n + length codes ≡ m
  allowed : AllAllowed codes
  bytes : text codes ≡ s

-- what is read where `next` may come: bytes of the ranges that it asks for, then code points
abbrev Tails : (List ℕ → Type 0) → ℕ → ℕ → ℕ → List ℕ → Type 0
Tails A least most more [] = ⊥
Tails A least most zero (b ∷ s) = (least ≤ b) × (b ≤ most) × A s
Tails A least most (suc more) (b ∷ s) = (least ≤ b) × (b ≤ most) × Tails A 0x80 0xBF more s

abbrev Read : ℕ → ℕ → Next → List ℕ → Type 0
Read n m First s = From n m s
Read n m (Tail least most more) s = Tails (From n m) least most more s
Read n m Never s = ⊥

front : (n m more : ℕ) (s : List ℕ) {least most b : ℕ} → least ≤ b → b ≤ most → Read n m (awaited more) s → Read n m (Tail least most more) (b ∷ s)
front n m zero s h g r = (h, g, r)
front n m (suc more) s h g r = (h, g, r)

-- a code point in front
add : {n m : ℕ} {s : List ℕ} {c : ℕ} {e : List ℕ} → Allowed c → encode c ≡ e → From (n + 1) m s → From n m (e ++ s)
add {c = c} a p f = record { codes = c ∷ f.codes; many = omega (arith, f.many); allowed = (a, f.allowed); bytes = λ i. p i ++ f.bytes i }

-- a first byte and what is read after it are a code point and the rest
module _ {n m : ℕ} {b : ℕ} where
  one : {s : List ℕ} → 0x20 ≤ b → b ≤ 0x7E → From (n + 1) m s → From n m (b ∷ s)
  one h g f = let a : Allowed b = omega arith in add a (one_byte (omega arith)) f

  two : (s : List ℕ) → 0xC2 ≤ b → b ≤ 0xDF → Read (n + 1) m (Tail 0x80 0xBF 0) s → From n m (b ∷ s)
  two [] h g r = absurd r
  two (x ∷ s) h g r =
      let t : Two (b * 0x40 + x - 0x3080) b x = omega arith in
      let a : Allowed (b * 0x40 + x - 0x3080) = omega arith in
      add a (two_bytes t) r.2

  three : {least most : ℕ} (s : List ℕ) → Read (n + 1) m (Tail least most 1) s
      → ((x y : ℕ) → least ≤ x → x ≤ most → 0x80 ≤ y → y ≤ 0xBF → Three (value3 b x y) b x y × Allowed (value3 b x y))
      → From n m (b ∷ s)
  three [] r fit = absurd r
  three (x ∷ []) r fit = absurd r.2
  three (x ∷ y ∷ s) r fit = let t = fit x y r.0 r.1 r.2.0 r.2.1 in add t.1 (three_bytes t.0) r.2.2

  four : {least most : ℕ} (s : List ℕ) → Read (n + 1) m (Tail least most 2) s
      → ((x y z : ℕ) → least ≤ x → x ≤ most → 0x80 ≤ y → y ≤ 0xBF → 0x80 ≤ z → z ≤ 0xBF → Four (value4 b x y z) b x y z × Allowed (value4 b x y z))
      → From n m (b ∷ s)
  four [] r fit = absurd r
  four (x ∷ []) r fit = absurd r.2
  four (x ∷ y ∷ []) r fit = absurd r.2.2
  four (x ∷ y ∷ z ∷ s) r fit =
      let t = fit x y z r.0 r.1 r.2.0 r.2.1 r.2.2.0 r.2.2.1 in
      add t.1 (four_bytes t.0) r.2.2.2

  begun : (s : List ℕ) → Read (n + 1) m (first b) s → From n m (b ∷ s)
  begun s =
      by_rows (λ next. Read (n + 1) m next s → From n m (b ∷ s)) b 0 rows (omega arith) (λ r. absurd r) (λ p. p)
      (λ h g r. absurd r)
      (λ h g r. one h g r)
      (λ h g r. absurd r)
      (λ h g r. two s h g r)
      (λ h g r. three s r (omega arith))
      (λ h g r. three s r (omega arith))
      (λ h g r. three s r (omega arith))
      (λ h g r. three s r (omega arith))
      (λ h g r. four s r (omega arith))
      (λ h g r. four s r (omega arith))
      (λ h g r. four s r (omega arith))
      (λ h g r. absurd r)

sound : (s : List ℕ) (next : Next) (n m : ℕ) → counted next n s ≡ Some m → Read n m next s
unfolding counted
sound [] First n m e = record { codes = []; many = let p : n ≡ m = cc in omega arith; allowed = tt; bytes = refl }
sound [] (Tail least most more) n m e = let z : ◌≡◌ {A = ℕ} 0 1 = cc in absurd (omega arith)
sound [] Never n m e = let z : ◌≡◌ {A = ℕ} 0 1 = cc in absurd (omega arith)
sound (b ∷ s) First n m e = begun s (sound s (first b) (n + 1) m e)
sound (b ∷ s) (Tail least most more) n m e = tailed (within least most b) refl (rw (add-zero n) at (sound s (after (Tail least most more) b) (n + 0) m e))
  where
    tailed : (t : Bool) → within least most b ≡ t → Read n m (cond t (awaited more) Never) s → Read n m (Tail least most more) (b ∷ s)
    tailed true p r = front n m more s (leb-true least b (and_left _ (leb b most) p)) (leb-true b most (and_right (leb least b) _ p)) r
    tailed false p r = absurd r
sound (b ∷ s) Never n m e = sound s Never (n + 0) m e

pub points_sound : (s : List ℕ) (n : ℕ) → points s ≡ Some n → TextOf n s
unfolding points
points_sound s n e =
    let f = sound s First 0 n e in
    record { codes = f.codes; many = omega (arith, f.many); allowed = f.allowed; bytes = f.bytes }

-- The other way: what is encoded is read.
step : (n more : ℕ) (s : List ℕ) {least most x : ℕ} → (least ≤ x) × (x ≤ most) → counted (Tail least most more) n (x ∷ s) ≡ counted (awaited more) n s
unfolding counted
step n more s {least} {most} {x} h = rw (inside least most x h.0 h.1, add-zero n)

module _ (n : ℕ) where
  -- the first two bytes, by the row of the first
  row : (j low b x : ℕ) (s : List ℕ) {least most more : ℕ} → below low (take j rows) ≡ true → following j rows ≡ Tail least most more
      → (low ≤ b) × (b ≤ reach j rows) × (least ≤ x) × (x ≤ most) → counted First n (b ∷ x ∷ s) ≡ counted (awaited more) (n + 1) s
  unfolding counted
  row j low b x s {least} {most} e p h = rw (← hits j rows low b e h.0 h.1, p, inside least most x h.2 h.3, add-zero (n + 1))

  module _ (s : List ℕ) {c : ℕ} (a : Allowed c) where
    point1 : c ≤ 0x7F → counted First n (c ∷ s) ≡ counted First (n + 1) s
    unfolding counted
    point1 h = rw (← hits 1 rows 0x20 c refl a.printable (omega (arith, a.not_delete)))

    point3 : {b x y : ℕ} → Three c b x y → counted First n (b ∷ x ∷ y ∷ s) ≡ counted (Tail 0x80 0xBF 0) (n + 1) (y ∷ s)
    point3 {b} {x} {y} t =
        by_le c 0xFFF (λ h. row 4 0xE0 b x (y ∷ s) refl refl (omega arith))
        (λ h. by_le c 0xCFFF (λ g. row 5 0xE1 b x (y ∷ s) refl refl (omega arith))
        (λ g. by_le c 0xD7FF (λ f. row 6 0xED b x (y ∷ s) refl refl (omega arith))
        (λ f. by_le c 0xDFFF (λ k. absurd (a.not_surrogate f k))
        (λ k. row 7 0xEE b x (y ∷ s) refl refl (omega arith)))))

    point4 : {b x y z : ℕ} → Four c b x y z → counted First n (b ∷ x ∷ y ∷ z ∷ s) ≡ counted (Tail 0x80 0xBF 1) (n + 1) (y ∷ z ∷ s)
    point4 {b} {x} {y} {z} t =
        by_le c 0x3FFFF (λ h. row 8 0xF0 b x (y ∷ z ∷ s) refl refl (omega arith))
        (λ h. by_le c 0xFFFFF (λ g. row 9 0xF1 b x (y ∷ z ∷ s) refl refl (omega arith))
        (λ g. row 10 0xF4 b x (y ∷ z ∷ s) refl refl (omega arith)))

    point : counted First n (encode c ++ s) ≡ counted First (n + 1) s
    point =
        by_le c 0x7F (λ h. (λ i. counted First n (one_byte h i ++ s)) ∙ point1 h)
        (λ h. by_le c 0x7FF
        (λ g. let t : Two c (0xC0 + c / 0x40) (0x80 + c % 0x40) = omega arith in
        (λ i. counted First n (two_bytes t i ++ s)) ∙ row 3 0xC2 _ _ s refl refl (omega arith))
        (λ g. by_le c 0xFFFF
        (λ f. let t : Three c (0xE0 + c / 0x1000) (0x80 + c / 0x40 % 0x40) (0x80 + c % 0x40) = omega arith in
        (λ i. counted First n (three_bytes t i ++ s)) ∙ point3 t ∙ step (n + 1) 0 s (omega arith))
        (λ f. let t : Four c (0xF0 + c / 0x40000) (0x80 + c / 0x1000 % 0x40) (0x80 + c / 0x40 % 0x40) (0x80 + c % 0x40) = omega (arith, a.last) in
        (λ i. counted First n (four_bytes t i ++ s)) ∙ point4 t ∙ step (n + 1) 1 (_ ∷ s) (omega arith) ∙ step (n + 1) 0 s (omega arith))))

complete : (cs : List ℕ) (n : ℕ) → AllAllowed cs → counted First n (text cs) ≡ Some (n + length cs)
unfolding counted
complete [] n a = ap Some (let p : n ≡ n + 0 = omega arith in p)
complete (c ∷ cs) n a =
    point n (text cs) a.0 ∙ complete cs (n + 1) a.1
    ∙ ap Some (let p : n + 1 + length cs ≡ n + suc (length cs) = omega arith in p)

pub points_complete : (s : List ℕ) (n : ℕ) → TextOf n s → points s ≡ Some n
unfolding points
points_complete s n t =
    (λ i. counted First 0 (sym t.bytes i)) ∙ complete t.codes 0 t.allowed
    ∙ ap Some (let p : 0 + length t.codes ≡ n = omega (arith, t.many) in p)

within_sound : (most : ℕ) (s : List ℕ) → points_within most s ≡ true → (n : ℕ) × (1 ≤ n) × (n ≤ most) × TextOf n s
unfolding points_within
within_sound most s e = go (points s) refl e
  where
    go : (p : Option ℕ) → points s ≡ p → count_within most p ≡ true → (n : ℕ) × (1 ≤ n) × (n ≤ most) × TextOf n s
    go (Some n) q e = (n, leb-true 1 n (and_left _ (leb n most) e), leb-true n most (and_right (leb 1 n) _ e), points_sound s n q)
    go None q e = let z : ◌≡◌ {A = ℕ} 0 1 = cc in absurd (omega arith)

within_complete : (most : ℕ) (s : List ℕ) → (n : ℕ) × (1 ≤ n) × (n ≤ most) × TextOf n s → points_within most s ≡ true
unfolding points_within
within_complete most s t = rw (points_complete s t.0 t.3, le-leb 1 t.0 t.1, le-leb t.0 most t.2)

pub meaning : Meaning
meaning = record {
  count = λ s n. (points_sound s n, points_complete s n);
  within = λ most s. (within_sound most s, within_complete most s);
}
