-- Words: a text that is a word, begins with one, or is one of several.
use Rattle.std.specs.Prelude.{ℕ, zero, suc, ◌-◌, Bool, true, false, ◌&&◌, ◌||◌, List, [], ◌∷◌, eqb, length}

-- blank is zero bytes
abbrev pub blank : List ℕ → Bool
blank s = eqb (length s) 0

-- s begins with the word
unfoldable pub starts_with : List ℕ → List ℕ → Bool
starts_with [] s = true
starts_with (y ∷ word) [] = false
starts_with (y ∷ word) (x ∷ s) = eqb x y && starts_with word s

-- s is the word
unfoldable pub same : List ℕ → List ℕ → Bool
same [] [] = true
same [] (x ∷ s) = false
same (y ∷ word) [] = false
same (y ∷ word) (x ∷ s) = eqb x y && same word s

-- s is one of the words, each as long as s, that follow one another once `skip` more bytes are passed
unfoldable pub among : List ℕ → ℕ → List ℕ → Bool
among s skip [] = false
among s zero (b ∷ words) = starts_with s (b ∷ words) || among s (length s - 1) words
among s (suc skip) (b ∷ words) = among s skip words

-- s is one of the words of `width` bytes that follow one another in `words`
unfoldable pub one_of : ℕ → List ℕ → List ℕ → Bool
one_of width words s = eqb (length s) width && among s 0 words
