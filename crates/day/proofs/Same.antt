-- Two histories whose lines are asked the same and say the same count the same.
use mathlib.Core.Path.{◌≡◌, refl, sym, ap, ◌∙◌}
use mathlib.Core.Bool.{Bool, false, cond, not, ◌&&◌, ◌||◌}
use mathlib.Core.List.{List, [], ◌∷◌, ◌++◌}
use Prim.Native.Nat.{ℕ, zero, suc, ◌+◌, ◌<◌}
use native.Mathlib.Omega.{arith}
use lib.Dec.{leb}
use lib.ListN.{length, take}
use Rattle.verdict.specs.Codes.{code_count}
use Rattle.verdict.specs.Verdict.{bit}
use Rattle.text.proofs.Bools.{by_test}
use Rattle.day.specs.Counts.{Asked, among, count, firms, of_firm, of_none, codes_of, record_of}

module _ {K L : Type 0} (ask : Asked K) (asks : Asked L) where
  -- what one line says and the other
  pub record Agree (k : K) (l : L) : Type 0 where
    pub nobody_is : ask.nobody k ≡ asks.nobody l
    -- an entity is asked for only where there is one
    pub entity_is : ask.nobody k ≡ false → ask.entity k ≡ asks.entity l
    pub under_is : (n : ℕ) → n < 5 → ask.under n k ≡ asks.under n l
    pub has_is : (j : ℕ) → j < code_count → ask.has j k ≡ asks.has j l

  pub data AllAgree : List K → List L → Type 0 where
    none : AllAgree [] []
    more : {k : K} {l : L} {ks : List K} {ls : List L} → Agree k l → AllAgree ks ls → AllAgree (k ∷ ks) (l ∷ ls)

  pub same_length : {ks : List K} {ls : List L} → AllAgree ks ls → length ks ≡ length ls
  same_length none = refl
  same_length (more a all) = ap suc (same_length all)

  firms_on : (n m : Bool) (e f : List ℕ) (fs gs : List (List ℕ)) → n ≡ m → (n ≡ false → e ≡ f) → fs ≡ gs
      → cond (n || among e fs) fs (fs ++ (e ∷ [])) ≡ cond (m || among f gs) gs (gs ++ (f ∷ []))
  firms_on n m e f fs gs p q r =
      by_test n
      (λ t. rw (t, sym p ∙ t) r)
      (λ t. rw (t, sym p ∙ t) (λ i. cond (among (q t i) (r i)) (r i) (r i ++ (q t i ∷ []))))

  pub same_firms : {ks : List K} {ls : List L} → AllAgree ks ls → firms ask ks ≡ firms asks ls
  unfolding firms
  same_firms none = refl
  same_firms (more {k} {l} {ks} {ls} a all) =
      firms_on (ask.nobody k) (asks.nobody l) (ask.entity k) (asks.entity l) (firms ask ks) (firms asks ls) a.nobody_is a.entity_is (same_firms all)

  pub firm_agrees : (e : List ℕ) (k : K) (l : L) (ks : List K) (ls : List L) → Agree k l → AllAgree ks ls → of_firm ask e k ks ≡ of_firm asks e l ls
  firm_agrees e k l ks ls a all =
      by_test (ask.nobody k) (λ t. rw (t, sym a.nobody_is ∙ t)) (λ t. rw (t, sym a.nobody_is ∙ t, a.entity_is t))

  pub none_agrees : (m : ℕ) (k : K) (l : L) (ks : List K) (ls : List L) → Agree k l → AllAgree ks ls → of_none ask m k ks ≡ of_none asks m l ls
  none_agrees m k l ks ls a all =
      by_test (ask.nobody k)
      (λ t. rw (t, sym a.nobody_is ∙ t))
      (λ t. rw (t, sym a.nobody_is ∙ t) (λ i. not (among (a.entity_is t i) (take m (same_firms all i))) && leb m (length (same_firms all i))))

  -- such lines are the same in both
  module _ (such : K → List K → Bool) (suchlike : L → List L → Bool)
      (agrees : (k : K) (l : L) (ks : List K) (ls : List L) → Agree k l → AllAgree ks ls → such k ks ≡ suchlike l ls) where
    same_count : (p : K → Bool) (q : L → Bool) (ks : List K) (ls : List L) → ((k : K) (l : L) → Agree k l → p k ≡ q l) → AllAgree ks ls
        → count (λ k earlier. such k earlier && p k) ks ≡ count (λ l earlier. suchlike l earlier && q l) ls
    same_count p q [] [] alike none = refl
    same_count p q [] (l ∷ ls) alike x = elim x [ ]
    same_count p q (k ∷ ks) [] alike x = elim x [ ]
    same_count p q (k ∷ ks) (l ∷ ls) alike (more a all) = λ i. bit (agrees k l ks ls a all i && alike k l a i) + same_count p q ks ls alike all i

    same_codes : (j n : ℕ) (ks : List K) (ls : List L) → j + n ≡ code_count → AllAgree ks ls → codes_of ask such ks j n ≡ codes_of asks suchlike ls j n
    same_codes j zero ks ls e all = refl
    same_codes j (suc n) ks ls e all =
        λ i. same_count (ask.has j) (asks.has j) ks ls (λ k l a. a.has_is j (omega arith)) all i ∷ same_codes (suc j) n ks ls (omega arith) all i

    pub same_record : (e : List ℕ) (ks : List K) (ls : List L) → AllAgree ks ls → record_of ask e such ks ≡ record_of asks e suchlike ls
    unfolding record_of
    same_record e ks ls all = λ i. record {
      entity = e;
      accepted = same_count (ask.under 0) (asks.under 0) ks ls (λ k l a. a.under_is 0 (omega arith)) all i;
      cancelled = same_count (ask.under 1) (asks.under 1) ks ls (λ k l a. a.under_is 1 (omega arith)) all i;
      found = same_count (ask.under 2) (asks.under 2) ks ls (λ k l a. a.under_is 2 (omega arith)) all i;
      full = same_count (ask.under 3) (asks.under 3) ks ls (λ k l a. a.under_is 3 (omega arith)) all i;
      refused = same_count (ask.under 4) (asks.under 4) ks ls (λ k l a. a.under_is 4 (omega arith)) all i;
      codes = same_codes 0 code_count ks ls refl all i;
    }
