-- The walk over the rows of a table, and over the codes.
use mathlib.Core.Path.{◌≡◌, ◌∙◌, refl, sym, ap}
use mathlib.Core.Bool.{Bool, true, false, ◌&&◌, ◌||◌, or-false, and-true, and-false}
use mathlib.Core.List.{List, [], ◌∷◌, ◌++◌, append_assoc, map}
use Prim.Native.Nat.{ℕ, zero, suc, ◌+◌, ◌≤◌, ◌<◌}
use native.Mathlib.Omega.{arith}
use lib.Dec.{eqb}
use lib.ListN.{length, get_or, take, drop, set, replicate, drop_of_length-le}
use lib.Seq.{length-take-le, take_all}
use Rattle.std.proofs.lemmas.List.{append-nil, get_or_at, set_at}
use Rattle.std.proofs.lemmas.Grind.{take_at_read}
use Rattle.text.proofs.Lists.{rest_at}
use Rattle.std.specs.List.{list_any}
use Rattle.text.specs.Shape.{shape}
use Rattle.cfi.specs.declared.tables.Row.{Row}
use Rattle.cfi.specs.Rules.{wrong, any, matches, broken, codes}
use Rattle.cfi.specs.Table.{fault_of, rule_of, marked}

any_is : {A : Type 0} (test : A → Bool) (xs : List A) → any test xs ≡ list_any test xs
unfolding any
any_is test [] = refl
any_is test (x ∷ xs) = ap (λ (b : Bool). test x || b) (any_is test xs)

pub matches_is : (patterns : List (List ℕ)) (cfi : List ℕ) → matches patterns cfi ≡ list_any (λ pattern. shape pattern cfi) patterns
unfolding matches
matches_is patterns cfi = any_is (λ pattern. shape pattern cfi) patterns

-- of one row: its cell first
module _ (kinds cfi : List ℕ) (row : Row) {k : ℕ} {w : Bool} (holds : k ≡ get_or kinds row.cell 0) (says : w ≡ wrong (fault_of row.fault) (get_or kinds 30 0) k) where
  wrong_is : w ≡ wrong (fault_of row.fault) (get_or kinds 30 0) (get_or kinds row.cell 0)
  wrong_is = says ∙ (λ i. wrong (fault_of row.fault) (get_or kinds 30 0) (holds i))

  pub row_wrong : w ≡ true → {r : Bool} → r ≡ list_any (λ pattern. shape pattern cfi) row.patterns.now → r ≡ broken kinds cfi (rule_of row)
  unfolding broken
  row_wrong e p = λ i. (sym e ∙ wrong_is) i && (p ∙ sym (matches_is row.patterns.now cfi)) i

  pub row_right : w ≡ false → w ≡ broken kinds cfi (rule_of row)
  unfolding broken
  row_right e = e ∙ (λ i. (sym e ∙ wrong_is) i && matches row.patterns.now cfi)

-- flag by flag, that of the code is set
marked_length : (code : ℕ) (codes : List ℕ) (found : List Bool) → length (marked code codes found) ≡ length found
unfolding marked
marked_length code [] found = refl
marked_length code (c ∷ cs) [] = refl
marked_length code (c ∷ cs) (flag ∷ found) = ap suc (marked_length code cs found)

marked_at : (code : ℕ) (codes : List ℕ) (found : List Bool) (i : ℕ) → i < length codes → i < length found
    → get_or (marked code codes found) i false ≡ (get_or found i false || eqb code (get_or codes i 0))
unfolding marked
marked_at code [] found i h k = absurd (omega arith)
marked_at code (c ∷ codes) [] i h k = absurd (omega arith)
marked_at code (c ∷ codes) (flag ∷ found) zero h k = refl
marked_at code (c ∷ codes) (flag ∷ found) (suc i) h k = marked_at code codes found i (omega arith) (omega arith)

-- the first i flags are set as they shall be, the others as they were
pub record MarkedSoFar (code : ℕ) (before now : List Bool) (i : ℕ) : Type 0 where
  pub length_is : length before ≡ 19
  pub flags : now ≡ take i (marked code codes before) ++ drop i before

pub marked_start : {code : ℕ} {before : List Bool} → length before ≡ 19 → MarkedSoFar code before before 0
marked_start h = record { length_is = h; flags = refl }

module _ {code : ℕ} {before now : List Bool} {i : ℕ} (so_far : MarkedSoFar code before now i) where
  abbrev want : List Bool
  want = marked code codes before

  want_length : length want ≡ 19
  want_length = marked_length code codes before ∙ so_far.length_is

  pub marked_on : i < 19 → MarkedSoFar code before (set now i (get_or now i false || eqb code (get_or codes i 0))) (i + 1)
  marked_on h =
      let own = eqb code (get_or codes i 0) in
      let flag = get_or before i false in
      let behind = drop (i + 1) before in
      let front : length (take i want) ≡ i = length-take-le i want (omega (arith, want_length)) in
      let here : now ≡ take i want ++ (flag ∷ behind) = so_far.flags ∙ rw (rest_at false before i (omega (arith, so_far.length_is))) in
      let more : take (i + 1) want ≡ take i want ++ ((flag || own) ∷ []) =
      (take_at_read want i false (omega (arith, want_length))).1 ∙ rw (marked_at code codes before i h (omega (arith, so_far.length_is))) in
      record {
        length_is = so_far.length_is;
        flags =
            rw (here, get_or_at (take i want) flag behind false i front, set_at (take i want) flag behind (flag || own) i front, more, append_assoc);
      }

  pub marked_end : 19 ≤ i → now ≡ marked code codes before
  marked_end h =
      so_far.flags ∙ rw (take_all i want (omega (arith, want_length)), drop_of_length-le before {i = i} (omega (arith, so_far.length_is)), append-nil)

module _ {A : Type 0} (test : A → Bool) (x : A) where
  any_snoc : (xs : List A) → any test (xs ++ (x ∷ [])) ≡ (any test xs || test x)
  unfolding any
  any_snoc [] = or-false (test x)
  any_snoc (y ∷ xs) = go (test y) (any_snoc xs)
    where
      go : (t : Bool) → any test (xs ++ (x ∷ [])) ≡ (any test xs || test x) → (t || any test (xs ++ (x ∷ []))) ≡ ((t || any test xs) || test x)
      go true e = refl
      go false e = e

pub map_ext : {f g : ℕ → Bool} → ((k : ℕ) → f k ≡ g k) → (codes : List ℕ) → map f codes ≡ map g codes
map_ext e [] = refl
map_ext e (k ∷ codes) = λ i. e k i ∷ map_ext e codes i

marked_map : (f g : ℕ → Bool) (code : ℕ) → ((k : ℕ) → (f k || eqb code k) ≡ g k) → (codes : List ℕ) → marked code codes (map f codes) ≡ map g codes
unfolding marked
marked_map f g code e [] = refl
marked_map f g code e (k ∷ codes) = λ i. e k i ∷ marked_map f g code e codes i

map_none : (codes : List ℕ) → length codes ≡ 19 → map (λ k. false) codes ≡ replicate 19 false
map_none codes h = go codes ∙ rw h
  where
    go : (codes : List ℕ) → map (λ k. false) codes ≡ replicate (length codes) false
    go [] = refl
    go (k ∷ codes) = λ i. false ∷ go codes i

-- of each code, whether a row of it finds its rule broken
unfoldable pub found_in : List Row → List ℕ → List ℕ → List ℕ → List Bool
found_in rows codes kinds cfi = map (λ k. any (λ row. eqb row.code k && broken kinds cfi (rule_of row)) rows) codes

-- the flags are those of the first i rows
pub record FoundSoFar (rows : List Row) (kinds cfi : List ℕ) (found : List Bool) (i : ℕ) : Type 0 where
  pub flags : found ≡ found_in (take i rows) codes kinds cfi

pub found_start : {rows : List Row} {kinds cfi : List ℕ} → FoundSoFar rows kinds cfi (replicate 19 false) 0
unfolding found_in any
found_start = record { flags = sym (map_none codes refl) }

-- one row more
module _ {rows : List Row} {kinds cfi : List ℕ} {found : List Bool} {i : ℕ} (so_far : FoundSoFar rows kinds cfi found i) (h : i < length rows) (d : Row)
    {r : Bool} (says : r ≡ broken kinds cfi (rule_of (get_or rows i d))) where
  abbrev finds : ℕ → Row → Bool
  finds k row = eqb row.code k && broken kinds cfi (rule_of row)

  abbrev before : ℕ → Bool
  before k = any (finds k) (take i rows)

  abbrev after : ℕ → Bool
  after k = any (finds k) (take (i + 1) rows)

  one_more : {b : Bool} → r ≡ b → (k : ℕ) → (before k || (eqb (get_or rows i d).code k && b)) ≡ after k
  one_more e k =
      (λ j. before k || (eqb (get_or rows i d).code k && (sym e ∙ says) j))
      ∙ rw (take_at_read rows i d h).1 (sym (any_snoc (finds k) (get_or rows i d) (take i rows)))

  pub found_more : r ≡ true → {more : List Bool} → more ≡ marked (get_or rows i d).code codes found → FoundSoFar rows kinds cfi more (i + 1)
  unfolding found_in
  found_more e p =
      let set-or-was : (k : ℕ) → (before k || eqb (get_or rows i d).code k) ≡ after k = λ k. (λ j. before k || sym (and-true (eqb (get_or rows i d).code k)) j) ∙ one_more e k in
      record { flags = p ∙ ap (marked (get_or rows i d).code codes) so_far.flags ∙ marked_map before after (get_or rows i d).code set-or-was codes }

  pub found_same : r ≡ false → {more : List Bool} → more ≡ found → FoundSoFar rows kinds cfi more (i + 1)
  unfolding found_in
  found_same e p =
      let as-was : (k : ℕ) → before k ≡ after k =
      λ k. sym (or-false (before k)) ∙ (λ j. before k || sym (and-false (eqb (get_or rows i d).code k)) j) ∙ one_more e k in
      record { flags = p ∙ so_far.flags ∙ map_ext as-was codes }

pub found_end : {rows : List Row} {kinds cfi : List ℕ} {found : List Bool} {i : ℕ} → FoundSoFar rows kinds cfi found i → length rows ≤ i
    → found ≡ found_in rows codes kinds cfi
found_end {rows} {kinds} {cfi} {i = i} so_far h = so_far.flags ∙ (λ j. found_in (take_all i rows h j) codes kinds cfi)
