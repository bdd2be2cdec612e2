-- What has not six letters matches no pattern, so no rule by CFI is broken.
use mathlib.Core.Path.{◌≡◌, ◌∙◌, refl, sym}
use mathlib.Core.Bool.{true, false, ◌&&◌, and-false}
use mathlib.Core.List.{List, [], ◌∷◌, map}
use Prim.Native.Nat.{ℕ}
use borrow.Author.Tests.{eqb-true}
use lib.Dec.{eqb}
use lib.ListN.{length, get_or, replicate}
use Rattle.text.proofs.Bools.{and_left, and_right}
use Rattle.text.proofs.WordLaws.{other_length}
use Rattle.cfi.specs.Rules.{Rule, rules, wrong, any, matches, broken, violated, codes, cfi_findings}
use Rattle.cfi.proofs.Spelling.{six, all_six, rules_six}

module _ (cfi : List ℕ) (h : length cfi ≡ 6 → ⊥) where
  none_match : (patterns : List (List ℕ)) → six patterns ≡ true → matches patterns cfi ≡ false
  unfolding matches any six
  none_match [] e = refl
  none_match (pattern ∷ patterns) e =
      let wide : length pattern ≡ 6 = eqb-true (length pattern) 6 (and_left (eqb (length pattern) 6) (six patterns) e) in
      rw (sym (other_length pattern cfi (λ same. h (same ∙ wide)))) (none_match patterns (and_right (eqb (length pattern) 6) (six patterns) e))

  module _ (kinds : List ℕ) where
    none_broken : (code : ℕ) (rs : List Rule) → all_six rs ≡ true → any (λ r. eqb r.code code && broken kinds cfi r) rs ≡ false
    unfolding any broken all_six
    none_broken code [] e = refl
    none_broken code (r ∷ rs) e =
        rw (
          none_match r.patterns (and_left (six r.patterns) (all_six rs) e),
          and-false (wrong r.fault (get_or kinds 30 0) (get_or kinds r.cell 0)),
          and-false (eqb r.code code),
        )
        (none_broken code rs (and_right (six r.patterns) (all_six rs) e))

    none_violated : (code : ℕ) → violated kinds cfi code ≡ false
    unfolding violated
    none_violated code = none_broken code rules rules_six

-- where no code is violated
all_false : (kinds cfi : List ℕ) → ((code : ℕ) → violated kinds cfi code ≡ false) → (cs : List ℕ) → map (violated kinds cfi) cs ≡ replicate (length cs) false
all_false kinds cfi none [] = refl
all_false kinds cfi none (code ∷ cs) = λ i. none code i ∷ all_false kinds cfi none cs i

pub no_cfi : (cfi : List ℕ) → (length cfi ≡ 6 → ⊥) → (kinds : List ℕ) → replicate 19 false ≡ cfi_findings kinds cfi
unfolding cfi_findings
no_cfi cfi h kinds = sym (all_false kinds cfi (none_violated cfi h kinds) codes)
