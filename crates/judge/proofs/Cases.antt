-- The outcome of a call, case by case.
use mathlib.Core.Path.{◌≡◌, ◌∙◌}
use mathlib.Core.Bool.{true, false}
use mathlib.Core.List.{[], ◌∷◌}
use Prim.Native.Nat.{ℕ, suc}
use borrow.Author.Tests.{eq-eqb, ne_eqb}
use native.Mathlib.Omega.{arith}
use Rattle.text.specs.FirstFrom.{first_from}
use Rattle.facts.specs.Call.{Call}
use Rattle.judge.specs.Refusal.{early, not_whole, no_room, refusal}
use Rattle.judge.specs.Outcome.{refused_outcome, judged_outcome, outcome}
use Rattle.judge.proofs.Firsts.{passed, stopped}

module _ (c : Call) (room : ℕ) where
  -- a refusal of 1 to 9
  pub out_early : (first_from 1 (early c room) ≡ 0 → ⊥) → outcome c room ≡ refused_outcome c (first_from 1 (early c room))
  unfolding outcome refusal
  out_early h =
      let e = stopped 1 (early c room) (not_whole c ∷ no_room c ∷ []) h in
      rw (e, ne_eqb _ _ h)

  module _ (none : first_from 1 (early c room) ≡ 0) where
    late : refusal c room ≡ first_from 10 (not_whole c ∷ no_room c ∷ [])
    unfolding refusal
    late = passed 0 (early c room) (not_whole c ∷ no_room c ∷ []) none

    refused_late : (m : ℕ) → refusal c room ≡ suc m → outcome c room ≡ refused_outcome c (suc m)
    unfolding outcome
    refused_late m e = rw (e, ne_eqb (suc m) 0 (λ q. omega arith))

    pub out_ten : not_whole c ≡ true → outcome c room ≡ refused_outcome c 10
    unfolding first_from
    out_ten t = refused_late 9 (late ∙ rw t)

    pub out_eleven : not_whole c ≡ false → no_room c ≡ true → outcome c room ≡ refused_outcome c 11
    unfolding first_from
    out_eleven t u = refused_late 10 (late ∙ rw (t, u))

    pub out_judged : not_whole c ≡ false → no_room c ≡ false → outcome c room ≡ judged_outcome c
    unfolding outcome first_from
    out_judged t u = let e : refusal c room ≡ 0 = late ∙ rw (t, u) in rw (eq-eqb _ _ e)
