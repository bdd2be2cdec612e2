-- Fixed shapes in runs of one letter: a text suits the pattern if each of its parts suits its run.
use mathlib.Core.Path.{◌≡◌, ◌∙◌, sym, refl}
use mathlib.Core.Bool.{Bool, ◌&&◌, and-true, and_assoc}
use mathlib.Core.List.{List, [], ◌∷◌}
use Prim.Native.Nat.{ℕ, zero, suc, ◌+◌, ◌≤◌}
use native.Mathlib.Omega.{arith}
use lib.Dec.{eqb}
use lib.ListN.{length, get_or, take, drop, length-drop, drop_of_length-le}
use lib.Seq.{drop-drop}
use Rattle.text.specs.declared.classes.Class.{Class}
use Rattle.text.specs.declared.classes.Class.TheVariants.{Digit, Capital, CapitalDigit, CapitalHash}
use Rattle.text.specs.Class.{in_class, all_of}
use Rattle.text.specs.Shape.{suits, shape}
use Rattle.text.proofs.Lists.{rest_at}

-- letters of a pattern, and what they ask of the bytes from a place on
pub record Run : Type 0 where
  pub width : ℕ
  pub letters : List ℕ → List ℕ
  pub test : List ℕ → ℕ → Bool
  pub says :
      (pattern s : List ℕ) (at : ℕ) → at + width ≤ length s
      → shape (letters pattern) (drop at s) ≡ (test s at && shape pattern (drop (at + width) s))

-- the pattern, its width, and what its runs ask one after the other
abbrev pub pattern_of : List Run → List ℕ
pattern_of [] = []
pattern_of (r ∷ rs) = r.letters (pattern_of rs)

abbrev pub width_of : List Run → ℕ
width_of [] = 0
width_of (r ∷ rs) = r.width + width_of rs

abbrev pub tests : Bool → ℕ → List Run → List ℕ → Bool
tests good at [] s = good
tests good at (r ∷ rs) s = tests (good && r.test s at) (at + r.width) rs s

pub in_runs : (good : Bool) (at : ℕ) (rs : List Run) (s : List ℕ) → length s ≡ at + width_of rs → (good && shape (pattern_of rs) (drop at s)) ≡ tests good at rs s
unfolding shape
in_runs good at [] s h =
    let all : length s ≤ at = omega arith in
    rw (drop_of_length-le s all) (and-true good)
in_runs good at (r ∷ rs) s h =
    (λ i. good && r.says (pattern_of rs) s at (omega arith) i)
    ∙ sym (and_assoc good (r.test s at) (shape (pattern_of rs) (drop (at + r.width) s)))
    ∙ in_runs (good && r.test s at) (at + r.width) rs s (omega arith)

-- n letters that stand for a class
abbrev pub times : ℕ → ℕ → List ℕ → List ℕ
times zero letter pattern = pattern
times (suc n) letter pattern = letter ∷ times n letter pattern

module _ (k : Class) (letter : ℕ) (stands : (b : ℕ) → suits letter b ≡ in_class k b) where
  pub run_says : (n : ℕ) (pattern t : List ℕ) → n ≤ length t → shape (times n letter pattern) t ≡ (all_of k (take n t) && shape pattern (drop n t))
  unfolding shape all_of
  run_says zero pattern t h = refl
  run_says (suc n) pattern [] h = absurd (omega arith)
  run_says (suc n) pattern (b ∷ t) h =
      (λ i. stands b i && run_says n pattern t (omega arith) i) ∙ sym (and_assoc (in_class k b) (all_of k (take n t)) (shape pattern (drop n t)))

  abbrev of_class : ℕ → Run
  of_class n =
      record {
        width = n;
        letters = times n letter;
        test = λ s at. all_of k (take n (drop at s));
        says = λ pattern s at h. run_says n pattern (drop at s) (rw length-drop (omega arith)) ∙ rw (drop-drop n at s);
      }

pub digit_letter : (b : ℕ) → suits 100 b ≡ in_class Digit b
unfolding suits
digit_letter b = refl

pub capital_letter : (b : ℕ) → suits 117 b ≡ in_class Capital b
unfolding suits
capital_letter b = refl

pub code_letter : (b : ℕ) → suits 110 b ≡ in_class CapitalDigit b
unfolding suits
code_letter b = refl

pub hash_letter : (b : ℕ) → suits 104 b ≡ in_class CapitalHash b
unfolding suits
hash_letter b = refl

-- d, u, n and h
abbrev pub digits : ℕ → Run
digits = of_class Digit 100 digit_letter

abbrev pub capitals : ℕ → Run
capitals = of_class Capital 117 capital_letter

abbrev pub codes : ℕ → Run
codes = of_class CapitalDigit 110 code_letter

abbrev pub hashes : ℕ → Run
hashes = of_class CapitalHash 104 hash_letter

-- a byte that stands for itself
module _ (letter : ℕ) (stands : (b : ℕ) → suits letter b ≡ eqb b letter) where
  pub byte_says : (pattern s : List ℕ) (at : ℕ) → at + 1 ≤ length s → shape (letter ∷ pattern) (drop at s) ≡ (eqb (get_or s at 0) letter && shape pattern (drop (at + 1) s))
  unfolding shape
  byte_says pattern s at h = rw (rest_at 0 s at (omega arith), stands (get_or s at 0))

  abbrev pub itself : Run
  itself = record { width = 1; letters = λ pattern. letter ∷ pattern; test = λ s at. eqb (get_or s at 0) letter; says = byte_says }
