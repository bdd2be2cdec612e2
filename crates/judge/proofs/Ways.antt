-- The contract of a call, from what its callees answer.
use mathlib.Core.Path.{◌≡◌, ◌∙◌, refl, sym, ap}
use mathlib.Core.Bool.{Bool, true, false, ◌&&◌, and_assoc}
use mathlib.Core.List.{List, [], ◌∷◌}
use Prim.Native.Nat.{ℕ, ◌≤◌}
use native.Mathlib.Omega.{arith}
use lib.ListN.{length}
use borrow.Author.Tests.{eq-eqb, ne_eqb, ltb-false}
use Rattle.text.specs.FirstFrom.{first_from}
use Rattle.cells.specs.Cells.{bars_of}
use Rattle.register.specs.Frame.{full}
use Rattle.facts.specs.Call.{Call}
use Rattle.facts.specs.Words.{is_absent}
use Rattle.facts.specs.Rules.{is_new, standing_of, all_flags}
use Rattle.verdict.specs.declared.Verdict.{Verdict}
use Rattle.verdict.specs.Codes.{entries_needed}
use Rattle.verdict.specs.Verdict.{codes_found, verdict_of, refused_by}
use Rattle.verdict.specs.Bits.{listed_by}
use Rattle.verdict.proofs.WordLaws.{verdict_lists}
use Rattle.judge.specs.Answer.{number}
use Rattle.judge.specs.declared.refusals.Refusal.{Refusal}
use Rattle.judge.specs.declared.refusals.Refusal.TheVariants.{LeiList, CtyList, CcyList, VenList, InsList, Register, Moment, Findings, Length, Cells, Full}
use Rattle.judge.specs.Refusal.{clean, early, not_whole, no_room}
use Rattle.judge.specs.Outcome.{written, refused_outcome, outcome, Judged}
use Rattle.judge.proofs.Firsts.{none_holds}
use Rattle.judge.proofs.FlagLaws.{flag_count, few_found}
use Rattle.judge.proofs.Cases.{out_early, out_ten, out_eleven, out_judged}

nothing : (l : List ℕ) → length l ≡ 0 → l ≡ []
nothing [] e = refl
nothing (x ∷ l) e = absurd (omega arith)

pub number_some : (r : Refusal) → number r ≡ 0 → ⊥
number_some LeiList e = omega arith
number_some CtyList e = omega arith
number_some CcyList e = omega arith
number_some VenList e = omega arith
number_some InsList e = omega arith
number_some Register e = omega arith
number_some Moment e = omega arith
number_some Findings e = omega arith
number_some Length e = omega arith
number_some Cells e = omega arith
number_some Full e = omega arith

module _ (c : Call) (before : List ℕ) where
  refused_as : (m : ℕ) {v : Verdict} → outcome c (length before) ≡ refused_outcome c m → v ≡ refused_by m
      → Judged (outcome c (length before)) before v before c.register
  refused_as m o e = rw o (record { says = e; lists = refl; keeps = refl })

  pub early_way : {number : ℕ} {v : Verdict} → number ≡ first_from 1 (early c (length before)) → (number ≡ 0 → ⊥) → v ≡ refused_by number
      → Judged (outcome c (length before)) before v before c.register
  early_way e h s =
      let f = first_from 1 (early c (length before)) in
      refused_as f (out_early c (length before) (λ q. h (e ∙ q))) (s ∙ ap refused_by e)

  module _ {number : ℕ} (first : number ≡ first_from 1 (early c (length before))) (zero_is : number ≡ 0) where
    none : first_from 1 (early c (length before)) ≡ 0
    none = sym first ∙ zero_is

    pub ten_way : {v : Verdict} → (bars_of c.line ≡ 64 → ⊥) → v ≡ refused_by 10 → Judged (outcome c (length before)) before v before c.register
    ten_way h s = refused_as 10 (out_ten c (length before) none (rw (ne_eqb _ _ h))) s

    room : length (codes_found (all_flags c)) ≤ length before
    room =
        let needed : entries_needed c.polish ≤ length before = ltb-false (length before) (entries_needed c.polish) (none_holds 0 (early c (length before)) 7 none) in
        omega (arith, few_found c)

    module _ {found : List Bool} {v : Verdict} (sixty-five : bars_of c.line ≡ 64) (flags_are : found ≡ all_flags c) (says : v ≡ verdict_of found) where
      whole : not_whole c ≡ false
      whole = rw (eq-eqb _ _ sixty-five)

      count_is : v.count ≡ length (codes_found (all_flags c))
      unfolding verdict_of
      count_is = ap (λ (x : Verdict). x.count) (says ∙ ap verdict_of flags_are)

      not_clean : (v.count ≡ 0 → ⊥) → clean c ≡ false
      unfolding clean
      not_clean h = ne_eqb _ _ (λ e. h (count_is ∙ e))

      pub found_way : {findings : List ℕ} → (v.count ≡ 0 → ⊥) → findings ≡ listed_by v.words before
          → Judged (outcome c (length before)) before v findings c.register
      unfolding no_room
      found_way h l =
          let dirty : clean c ≡ false = not_clean h in
          rw (out_judged c (length before) none whole (rw dirty))
          (record {
            says = says ∙ ap verdict_of flags_are;
            lists = l ∙ (λ j. listed_by ((says ∙ ap verdict_of flags_are) j).words before) ∙ verdict_lists (all_flags c) before (flag_count c) room;
            keeps = rw dirty;
          })

      module _ (clear : v.count ≡ 0) {new absent is_full : Bool}
          (new_is : new ≡ is_new c.line) (absent_is : absent ≡ is_absent (standing_of c)) (full_is : is_full ≡ full c.register) where
        cleaned : clean c ≡ true
        unfolding clean
        cleaned = eq-eqb _ _ (sym count_is ∙ clear)

        only : clean c ≡ true → no_room c ≡ (is_new c.line && (is_absent (standing_of c) && full c.register))
        unfolding no_room
        only e = rw e

        room_is : (new && absent && is_full) ≡ no_room c
        unfolding no_room
        room_is =
            (λ i. new_is i && absent_is i && full_is i)
            ∙ and_assoc (is_new c.line) (is_absent (standing_of c)) (full c.register)
            ∙ sym (only cleaned)

        pub full_way : {w : Verdict} → (new && absent && is_full) ≡ true → w ≡ refused_by 11 → Judged (outcome c (length before)) before w before c.register
        full_way t s = refused_as 11 (out_eleven c (length before) none whole (sym room_is ∙ t)) s

        pub clean_way : {register : List ℕ} → (new && absent && is_full) ≡ false → register ≡ written c
            → Judged (outcome c (length before)) before v before register
        clean_way t r =
            rw (out_judged c (length before) none whole (sym room_is ∙ t))
            (record {
              says = says ∙ ap verdict_of flags_are;
              lists = rw (nothing (codes_found (all_flags c)) (sym count_is ∙ clear));
              keeps = rw cleaned r;
            })
