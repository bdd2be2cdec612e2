-- The findings, code by code; and 330 and 350 by their parts, the cells that are wrong and the CFI that they are wrong for.
use mathlib.Core.Path.{◌≡◌, ◌∙◌, refl, sym}
use mathlib.Core.Bool.{false, ◌&&◌, ◌||◌, or-false}
use mathlib.Core.List.{[], ◌∷◌, List}
use Prim.Native.Nat.{ℕ}
use lib.Dec.{eqb}
use lib.ListN.{get_or}
use Rattle.cfi.specs.Rules.{UNT, PC, blank, wrong, Rule, rules, any, matches, broken, violated, matches_code, cfi_findings}

module _ (kinds cfi : List ℕ) where
  pub findings_listed : cfi_findings kinds cfi
      ≡ violated kinds cfi 330 ∷ violated kinds cfi 350 ∷ violated kinds cfi 380 ∷ violated kinds cfi 473 ∷ violated kinds cfi 480
      ∷ violated kinds cfi 481 ∷ violated kinds cfi 490 ∷ violated kinds cfi 500 ∷ violated kinds cfi 501 ∷ violated kinds cfi 502
      ∷ violated kinds cfi 510 ∷ violated kinds cfi 511 ∷ violated kinds cfi 530 ∷ violated kinds cfi 531 ∷ violated kinds cfi 540
      ∷ violated kinds cfi 542 ∷ violated kinds cfi 550 ∷ violated kinds cfi 551 ∷ violated kinds cfi 560 ∷ []
  unfolding cfi_findings
  findings_listed = refl

  -- of the one rule of a code
  apart : (r : Rule) → (broken kinds cfi r || false) ≡ (wrong r.fault (get_or kinds 30 0) (get_or kinds r.cell 0) && (matches r.patterns cfi || false))
  unfolding broken
  apart r = or-false _ ∙ (λ i. wrong r.fault (get_or kinds 30 0) (get_or kinds r.cell 0) && sym (or-false (matches r.patterns cfi)) i)

  pub violated_330 : violated kinds cfi 330 ≡ ((eqb (get_or kinds 30 0) UNT && eqb (get_or kinds 33 0) PC) && matches_code 330 cfi)
  unfolding violated matches_code any rules
  violated_330 = apart _

  pub violated_350 : violated kinds cfi 350 ≡ (blank (get_or kinds 35 0) && matches_code 350 cfi)
  unfolding violated matches_code any rules
  violated_350 = apart _
