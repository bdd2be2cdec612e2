-- The definitions take exactly the texts that the grammar writes, with the values that were written.
use mathlib.Core.Path.{◌≡◌, ◌∙◌, sym, refl, ap, subst}
use mathlib.Core.Bool.{Bool, true, false, cond, not, ◌&&◌}
use mathlib.Core.List.{List, [], ◌++◌, append-nil}
use Prim.Native.Nat.{ℕ}
use native.Mathlib.Omega.{arith}
use borrow.Author.Tests.{eqb-true, leb-true, le-leb}
use lib.Dec.{leb}
use lib.ListN.{length, drop, drop_of_length-le}
use lib.Seq.{drop-drop}
use Rattle.text.specs.Word.{blank, starts_with}
use Rattle.text.proofs.Bools.{and_left, and_right, by_test}
use Rattle.baskets.specs.declared.items.Holds.TheVariants.{Isin, Term}
use Rattle.baskets.specs.declared.legs.Kind.{Kind}
use Rattle.baskets.specs.declared.legs.Kind.TheVariants.{Swap, Other, Malformed}
use Rattle.baskets.specs.Items.{in_front, spaces_in}
use Rattle.baskets.specs.Legs.{legs_in}
use Rattle.baskets.specs.Underlying.{kind_word, kind_named, behind_word, legs_from, isins_in, underlying_of, is_underlying, terms_fit}
use Rattle.baskets.specs.Grammar.{spaces, BehindWord, bare, legs, UnderlyingWritten, TermsWritten}
use Rattle.baskets.proofs.FrontLaws.{clash, spaces_count, spaces_passed, spaces_first, word_first}
use Rattle.baskets.proofs.GrammarLegs.{legs_begin, legs_some, legs_accepted, legs_only}

-- cell 49: every text of the grammar is accepted, and nothing else is
pub terms_accepted : {kind : Kind} {s : List ℕ} → TermsWritten kind s → terms_fit kind s ≡ true
unfolding terms_fit
terms_accepted {s = s} t = rw (le-leb (length s) 400 t.short, legs_accepted t.written)

pub terms_only : (kind : Kind) (s : List ℕ) → terms_fit kind s ≡ true → TermsWritten kind s
unfolding terms_fit
terms_only kind s e =
    let good : Bool = (legs_in kind Term s).good in
    record {
      values = (legs_in kind Term s).values;
      written = legs_only kind Term s (and_right (leb (length s) 400) good e);
      short = leb-true (length s) 400 (and_left (leb (length s) 400) good e);
    }

-- behind the five bytes of a word
behind_is : (s : List ℕ) → behind_word s ≡ drop (spaces_in (drop 5 s)) (drop 5 s)
behind_is s = sym (drop-drop (spaces_in (drop 5 s)) 5 s)

isins_are : (s : List ℕ) → isins_in s ≡ (legs_from (kind_named s) (drop (spaces_in (drop 5 s)) (drop 5 s))).values
isins_are s = ap (λ (t : List ℕ). (legs_from (kind_named s) t).values) (behind_is s)

-- a leg or a basket is written
abbrev pub has_legs : {kind : Kind} {text : List ℕ} {values : List (List ℕ)} → BehindWord kind text values → Bool
has_legs (bare gap) = false
has_legs (legs gap w) = true

behind_accepted : {kind : Kind} {text : List ℕ} {values : List (List ℕ)} (w : BehindWord kind text values)
    → ((legs_from kind (drop (spaces_in text) text)).good ≡ true) × ((legs_from kind (drop (spaces_in text) text)).values ≡ values) × (not (blank (drop (spaces_in text) text)) ≡ has_legs w)
unfolding in_front
behind_accepted (bare gap) =
    let only : drop (spaces_in (spaces gap ++ [])) (spaces gap ++ []) ≡ [] = rw (spaces_count gap [] refl) (spaces_passed gap []) in
    let nothing : drop (spaces_in (spaces gap)) (spaces gap) ≡ [] = rw (append-nil (spaces gap)) at only in
    (rw nothing, rw nothing, rw nothing)
behind_accepted (legs {text = text} gap w) =
    let there : drop (spaces_in (spaces gap ++ text)) (spaces gap ++ text) ≡ text = rw (spaces_count gap text (legs_begin w)) (spaces_passed gap text) in
    (rw (there, legs_some w, legs_accepted w), rw (there, legs_some w, legs_accepted w), rw (there, legs_some w))

-- the word is known by its bytes
word_accepted : (kind : Kind) (text : List ℕ) → is_underlying kind ≡ true → (kind_named (kind_word kind ++ text) ≡ kind) × (drop 5 (kind_word kind ++ text) ≡ text)
unfolding kind_named starts_with
word_accepted Swap text e = (refl, refl)
word_accepted Other text e = (refl, refl)
word_accepted Malformed text e = clash refl (sym e)

-- cell 47: every text of the grammar is accepted, with the ISINs that were written, and told to have legs where it has
pub underlying_accepted : {kind : Kind} {s : List ℕ} {values : List (List ℕ)} (u : UnderlyingWritten kind s values) → is_underlying kind ≡ true
    → ((underlying_of s).kind ≡ kind) × (isins_in s ≡ values) × ((underlying_of s).legs ≡ has_legs u.written)
unfolding underlying_of
underlying_accepted {kind} {s} u e =
    let word = word_accepted kind u.text e in
    let named : kind_named s ≡ kind = rw u.worded word.0 in
    let text : drop 5 s ≡ u.text = rw u.worded word.1 in
    let w = behind_accepted u.written in
    (rw (behind_is s, text, named, w.0, le-leb (length u.text) 400 u.short), isins_are s ∙ rw (text, named) w.1, rw (behind_is s, text) w.2)

word_only : (s : List ℕ) → is_underlying (kind_named s) ≡ true → s ≡ kind_word (kind_named s) ++ drop 5 s
unfolding kind_named
word_only s e = go (starts_with (kind_word Swap) s) (starts_with (kind_word Other) s) refl refl e
  where
    go : (swap other : Bool) → starts_with (kind_word Swap) s ≡ swap → starts_with (kind_word Other) s ≡ other → is_underlying (cond swap Swap (cond other Other Malformed)) ≡ true
        → s ≡ kind_word (cond swap Swap (cond other Other Malformed)) ++ drop 5 s
    go true other f g h = word_first (kind_word Swap) s f
    go false true f g h = word_first (kind_word Other) s g
    go false false f g h = clash h refl

behind_only : (kind : Kind) (text : List ℕ) → (legs_from kind (drop (spaces_in text) text)).good ≡ true → BehindWord kind text (legs_from kind (drop (spaces_in text) text)).values
behind_only kind text good = by_test (blank behind) (λ e. rw e (nothing (eqb-true (length behind) 0 e))) (λ e. rw e (some (rw e at good)))
  where
    behind : List ℕ
    behind = drop (spaces_in text) text

    nothing : length behind ≡ 0 → BehindWord kind text []
    nothing e =
        let empty : behind ≡ [] = drop_of_length-le behind {i = 0} (omega (arith, e)) in
        subst (λ (t : List ℕ). BehindWord kind t []) (sym (spaces_first text ∙ rw (empty, append-nil (spaces (spaces_in text))))) (bare (spaces_in text))

    some : (legs_in kind Isin behind).good ≡ true → BehindWord kind text (legs_in kind Isin behind).values
    some g =
        subst (λ (t : List ℕ). BehindWord kind t (legs_in kind Isin behind).values) (sym (spaces_first text))
        (legs (spaces_in text) (legs_only kind Isin behind g))

-- and nothing else is
pub underlying_only : (s : List ℕ) → is_underlying (underlying_of s).kind ≡ true → UnderlyingWritten (underlying_of s).kind s (isins_in s)
unfolding underlying_of
underlying_only s e = go ((legs_from (kind_named s) (behind_word s)).good && leb (length (drop 5 s)) 400) refl e
  where
    go : (t : Bool) → ((legs_from (kind_named s) (behind_word s)).good && leb (length (drop 5 s)) 400) ≡ t → is_underlying (cond t (kind_named s) Malformed) ≡ true
        → UnderlyingWritten (cond t (kind_named s) Malformed) s (isins_in s)
    go true f h =
        record {
          text = drop 5 s;
          worded = word_only s h;
          written = rw (isins_are s) (behind_only (kind_named s) (drop 5 s) (rw (behind_is s) at (and_left (legs_from (kind_named s) (behind_word s)).good (leb (length (drop 5 s)) 400) f)));
          short = leb-true (length (drop 5 s)) 400 (and_right (legs_from (kind_named s) (behind_word s)).good (leb (length (drop 5 s)) 400) f);
        }
    go false f h = clash h refl
