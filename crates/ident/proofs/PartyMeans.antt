-- A cell that is well formed is the word of its kind, with the part behind it: the places are right.
use mathlib.Core.Path.{◌≡◌, refl, sym}
use mathlib.Core.Bool.{Bool, true, false, cond, true≢false}
use mathlib.Core.List.{List, [], ◌∷◌, ◌++◌}
use Prim.Native.Nat.{ℕ}
use borrow.Author.Tests.{eqb-true}
use lib.Dec.{eqb}
use lib.ListN.{length, drop}
use Rattle.text.specs.Ascii.{ascii}
use Rattle.text.specs.Word.{same, starts_with}
use Rattle.text.proofs.Bools.{and_left, and_right}
use Rattle.ident.specs.declared.parties.Allowed.{Allowed}
use Rattle.ident.specs.declared.parties.Identifier.{Identifier}
use Rattle.ident.specs.declared.parties.Identifier.TheVariants.{Malformed}
use Rattle.ident.specs.Party.{named, word_of, part_of, well_formed, identifier_of, is_malformed}

begins : (word s : List ℕ) → starts_with word s ≡ true → s ≡ word ++ drop (length word) s
unfolding starts_with
begins [] s e = refl
begins (y ∷ word) [] e = absurd (true≢false (sym e))
begins (y ∷ word) (x ∷ s) e =
    let head : x ≡ y = eqb-true x y (and_left (eqb x y) (starts_with word s) e) in
    let tail : s ≡ word ++ drop (length word) s = begins word s (and_right (eqb x y) (starts_with word s) e) in
    λ i. head i ∷ tail i

is_word : (word s : List ℕ) → same word s ≡ true → s ≡ word ++ []
unfolding same
is_word [] [] e = refl
is_word [] (x ∷ s) e = absurd (true≢false (sym e))
is_word (y ∷ word) [] e = absurd (true≢false (sym e))
is_word (y ∷ word) (x ∷ s) e =
    let head : x ≡ y = eqb-true x y (and_left (eqb x y) (same word s) e) in
    let tail : s ≡ word ++ [] = is_word word s (and_right (eqb x y) (same word s) e) in
    λ i. head i ∷ tail i

abbrev Made : List ℕ → Identifier → Type 0
Made s k = is_malformed k ≡ false → s ≡ word_of k ++ part_of k s

either : (s : List ℕ) (t : Bool) (j k : Identifier) → (t ≡ true → Made s j) → Made s k → Made s (cond t j k)
either s true j k f g = f refl
either s false j k f g = g

made : (s : List ℕ) → Made s (named s)
unfolding named
made s =
    either s _ _ _ (λ e m. is_word (ascii "INTC") s e)
    (either s _ _ _ (λ e m. is_word (ascii "NORE") s e)
    (either s _ _ _ (λ e m. begins (ascii "LEI:") s e)
    (either s _ _ _ (λ e m. begins (ascii "CCPT:") s e)
    (either s _ _ _ (λ e m. begins (ascii "CONCAT:") s e)
    (either s _ _ _ (λ e m. begins (ascii "NIDN:") s e)
    (either s _ _ _ (λ e m. begins (ascii "MIC:") s e)
    (either s _ _ _ (λ e m. begins (ascii "ALGO:") s e)
    (λ m. absurd (true≢false m)))))))))

pub word_and_part : (a : Allowed) (s : List ℕ) → is_malformed (identifier_of a s) ≡ false → s ≡ word_of (identifier_of a s) ++ part_of (identifier_of a s) s
unfolding identifier_of
word_and_part a s = either s (well_formed a (named s) (part_of (named s) s)) (named s) Malformed (λ e. made s) (λ m. absurd (true≢false m))
