-- A register of version 1 written into another buffer as version 2.
use Rattle.std.specs.Prelude.{ℕ, zero, suc, ◌≡◌, cond, not, ◌&&◌, List, [], ◌∷◌, ◌++◌, eqb, ltb, length, take, drop}
use Rattle.std.proofs.lemmas.List.Edits.{sets}
use Rattle.text.specs.Ascii.{ascii}
use Rattle.register.specs.Frame.{place, version, used, framed}
use Rattle.register.specs.Written.{little_bytes}

-- the first k rows of s, of 74 bytes, each with day 0 behind it
unfoldable pub undated : ℕ → List ℕ → List ℕ
undated zero s = []
undated (suc k) s = take 74 s ++ (0 ∷ 0 ∷ 0 ∷ 0 ∷ undated k (drop 74 s))

-- mark, version 2, the same used count, and the used rows in their places
unfoldable pub in_version2 : List ℕ → List ℕ
in_version2 source = ascii "TRN" ++ (little_bytes 2 2 ++ (little_bytes 4 (used source) ++ undated (used source) (drop 9 source)))

-- 6: the source is badly framed or not of version 1; then 12: the target has fewer than 9 + used x 78 bytes
unfoldable pub conversion_answer : (source target : List ℕ) → ℕ
conversion_answer source target =
    cond
    (not (framed source && eqb (version source) 1))
    6
    (cond (ltb (length target) (place 4 (used source))) 12 0)

-- the target: with answer 0 it begins with the register in version 2 and later bytes stay, and else all of it stays
unfoldable pub converted : (source target : List ℕ) → List ℕ
converted source target = cond (eqb (conversion_answer source target) 0) (sets target 0 (in_version2 source)) target

-- what a conversion answers and leaves
pub record Converted (source target : List ℕ) (answer : ℕ) (left : List ℕ) : Type 0 where
  pub says : answer ≡ conversion_answer source target
  pub leaves : left ≡ converted source target
