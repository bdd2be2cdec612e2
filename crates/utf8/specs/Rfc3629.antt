-- What a text in UTF-8 is, by RFC 3629 section 3: code points, each written in one to four bytes.
use Rattle.std.specs.Prelude.{ℕ, ◌+◌, ◌/◌, ◌%◌, ◌≤◌, ◌≡◌, true, cond, List, [], ◌∷◌, ◌++◌, ◌↔◌, Some, leb, length}
use Rattle.utf8.specs.Abnf.{points, points_within}

-- 10xxxxxx, with the six lowest bits
abbrev pub six : ℕ → ℕ
six c = 0x80 + c % 0x40

-- the table of section 3: 0xxxxxxx; 110xxxxx 10xxxxxx; 1110xxxx 10xxxxxx 10xxxxxx; 11110xxx 10xxxxxx 10xxxxxx 10xxxxxx
unfoldable pub encode : ℕ → List ℕ
encode c =
    cond (leb c 0x7F) (c ∷ [])
    (cond (leb c 0x7FF) ((0xC0 + c / 0x40) ∷ six c ∷ [])
    (cond (leb c 0xFFFF) ((0xE0 + c / 0x1000) ∷ six (c / 0x40) ∷ six c ∷ [])
    ((0xF0 + c / 0x40000) ∷ six (c / 0x1000) ∷ six (c / 0x40) ∷ six c ∷ [])))

-- the code points up to U+10FFFF without the surrogates, which section 3 prohibits; here none below U+0020, and not U+007F
pub record Allowed (c : ℕ) : Type 0 where
  pub printable : 0x20 ≤ c
  pub not_delete : c ≡ 0x7F → ⊥
  pub not_surrogate : 0xD800 ≤ c → c ≤ 0xDFFF → ⊥
  pub last : c ≤ 0x10FFFF

abbrev pub AllAllowed : List ℕ → Type 0
AllAllowed [] = Unit {0}
AllAllowed (c ∷ cs) = Allowed c × AllAllowed cs

-- the bytes of code points, one after the other
abbrev pub text : List ℕ → List ℕ
text [] = []
text (c ∷ cs) = encode c ++ text cs

-- s is the text of n allowed code points
pub record TextOf (n : ℕ) (s : List ℕ) : Type 0 where
  pub codes : List ℕ
  pub many : length codes ≡ n
  pub allowed : AllAllowed codes
  pub bytes : text codes ≡ s

-- What the answers mean: bytes are counted as n code points exactly if they are the text of n allowed ones. Proved as
-- `meaning` in proofs/Means.antt.
pub record Meaning : Type 0 where
  pub count : (s : List ℕ) (n : ℕ) → (points s ≡ Some n) ↔ TextOf n s
  pub within : (most : ℕ) (s : List ℕ) → (points_within most s ≡ true) ↔ ((n : ℕ) × (1 ≤ n) × (n ≤ most) × TextOf n s)
