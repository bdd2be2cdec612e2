-- The place of the first LF: as `position` finds it, no LF before it, and LF at it.
use mathlib.Core.Path.{◌≡◌, ◌∙◌, refl, sym, ap}
use mathlib.Core.Bool.{Bool, true, false, cond}
use mathlib.Core.List.{List, [], ◌∷◌, ◌++◌}
use Prim.Native.Nat.{ℕ, suc, ◌+◌, ◌≤◌, ◌<◌}
use native.Mathlib.Numerals.{add-one}
use native.Mathlib.Omega.{arith}
use lib.Dec.{eqb, ltb}
use lib.ListN.{length, take, get_or}
use lib.Seq.{take-suc}
use borrow.Author.Tests.{eqb-true, ltb-false}
use Rattle.text.proofs.Bools.{by_test}
use Rattle.std.specs.Prelude.{◌==◌}
use Rattle.std.specs.List.{position_or_len}
use Rattle.std.specs.Option.{unwrap_or}
use Rattle.std.proofs.Common.{Some, None}
use Rattle.std.proofs.lemmas.List.Recursion.{is_position_or_len}
use Rattle.checker.specs.Progress.{line_end}

-- the first byte that is one, and where there is none the length stands in its place
end_first : (s : List ℕ) → line_end s ≡ position_or_len (λ b. b == 10) s
unfolding line_end
end_first = is_position_or_len line_end (λ b. b == 10) refl (λ b s. grind arith)

pub end_now : (b : ℕ) (s : List ℕ) → eqb b 10 ≡ true → line_end (b ∷ s) ≡ 0
unfolding line_end
end_now b s t = rw t

pub end_next : (b : ℕ) (s : List ℕ) → eqb b 10 ≡ false → line_end (b ∷ s) ≡ suc (line_end s)
unfolding line_end
end_next b s t = rw t

pub end_within : (s : List ℕ) → line_end s ≤ length s
unfolding line_end
end_within [] = omega arith
end_within (b ∷ s) = by_test (eqb b 10) (λ t. rw t (omega arith)) (λ t. rw t (omega (arith, end_within s)))

pub end_found : (s : List ℕ)
    → unwrap_or (cond (ltb (position_or_len (λ b. b == 10) s) (length s)) (Some (position_or_len (λ b. b == 10) s)) None) (length s) ≡ line_end s
end_found s = rw (sym (end_first s)) (go (ltb (line_end s) (length s)) refl)
  where
    go : (t : Bool) → ltb (line_end s) (length s) ≡ t → unwrap_or (cond t (Some (line_end s)) None) (length s) ≡ line_end s
    go true e = refl
    go false e = omega (arith, end_within s, ltb-false (line_end s) (length s) e)

end_is : (s : List ℕ) → line_end s < length s → get_or s (line_end s) 0 ≡ 10
unfolding line_end
end_is [] h = absurd (omega arith)
end_is (b ∷ s) h =
    by_test (eqb b 10)
    (λ t. rw t (eqb-true b 10 t))
    (λ t. let e : line_end (b ∷ s) ≡ suc (line_end s) = end_next b s t in ap (λ (i : ℕ). get_or (b ∷ s) i 0) e ∙ end_is s (omega arith))

-- up to an LF, and with it
pub with_end : (s : List ℕ) → line_end s < length s → take (line_end s + 1) s ≡ take (line_end s) s ++ (10 ∷ [])
with_end s h = rw (add-one, take-suc s (line_end s) 0) (ap (λ (b : ℕ). take (line_end s) s ++ (b ∷ [])) (end_is s h))
