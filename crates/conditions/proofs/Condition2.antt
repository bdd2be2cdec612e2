-- Condition 2, of every call and whatever its contract permits.
use mathlib.Core.Path.{◌≡◌, ◌∙◌, sym, ap}
use mathlib.Core.Bool.{true, false, cond, true≢false}
use mathlib.Core.Logic.{inl, inr}
use mathlib.Core.List.{List}
use Prim.Native.Nat.{ℕ, ◌+◌, ◌≤◌}
use native.Mathlib.Omega.{arith}
use borrow.Author.Tests.{not-false, eq-eqb, ne_eqb, eqb-true, ltb-false}
use lib.Dec.{eqb}
use lib.ListN.{length, get_or, drop, length-append, length-drop, get_or-eq_default}
use lib.Seq.{drop-append_seam}
use Rattle.text.specs.FirstFrom.{first_from}
use Rattle.text.proofs.Bools.{and_left}
use Rattle.register.specs.Frame.{framed}
use Rattle.facts.specs.Call.{Call}
use Rattle.facts.specs.Rules.{pair_stands, all_flags}
use Rattle.verdict.specs.declared.Verdict.{Verdict}
use Rattle.verdict.specs.Codes.{codes, entries_needed}
use Rattle.verdict.specs.Verdict.{bit, codes_found, verdict_of, refused_by}
use Rattle.verdict.specs.Counted.{bits_set, bit_at, rising_over, times}
use Rattle.verdict.proofs.Promises.{count_bits, bit_is_flag, found_rise, found_once}
use Rattle.judge.specs.Refusal.{clean, early, no_room}
use Rattle.judge.specs.Outcome.{written, Outcome, refused_outcome, judged_outcome, outcome, Judged}
use Rattle.judge.proofs.Firsts.{none_holds}
use Rattle.judge.proofs.FlagLaws.{flag_count, few_found}
use Rattle.conditions.specs.Condition1.{reached}
use Rattle.conditions.specs.Condition2.{listed, NotRefused, Condition2}
use Rattle.conditions.proofs.FoundLaws.{rule_once, form_once, none_other, nothing_found, says_found, lists_found, count_found, listed_found}
use Rattle.conditions.proofs.CallLaws.{judged_leaves, Way, refused, stuck, heard, way, sound, stands_after}

module _ (call : Call) {before findings left : List ℕ} {verdict : Verdict} (j : Judged (outcome call (length before)) before verdict findings left) where
  abbrev found : List ℕ
  found = codes_found (all_flags call)

  module _ (r : reached call (length before) ≡ true) (t : no_room call ≡ false) (o : outcome call (length before) ≡ judged_outcome call) where
    -- none of the first nine tests holds: there is room for every code found, and the register is framed
    none : first_from 1 (early call (length before)) ≡ 0
    none = eqb-true _ _ (and_left (eqb (first_from 1 (early call (length before))) 0) _ r)

    room : entries_needed call.polish ≤ length before
    room = ltb-false (length before) (entries_needed call.polish) (none_holds 0 (early call (length before)) 7 none)

    is_framed : framed call.register ≡ true
    is_framed = not-false (framed call.register) (none_holds 0 (early call (length before)) 5 none)

    fits : length found ≤ length before
    fits = omega (arith, room, few_found call)

    keeps : left ≡ cond (clean call) (written call) call.register
    keeps = j.keeps ∙ (ap (λ (x : Outcome). x.register) o ∙ judged_leaves call)

    is_clean : verdict.count ≡ 0 → clean call ≡ true
    unfolding clean
    is_clean e = eq-eqb _ _ (sym (count_found call j o) ∙ e)

    not_clean : (verdict.count ≡ 0 → ⊥) → clean call ≡ false
    unfolding clean
    not_clean h = ne_eqb _ _ (λ e. h (count_found call j o ∙ e))

    is_written : verdict.count ≡ 0 → left ≡ written call
    is_written e = keeps ∙ rw (is_clean e)

    words_are : verdict.words ≡ (verdict_of (all_flags call)).words
    words_are = ap (λ (v : Verdict). v.words) (says_found call j o)

    not_refused : NotRefused call before verdict findings left
    not_refused =
        let lists : listed verdict findings ≡ found = listed_found call j o in
        let count : verdict.count ≡ length found = count_found call j o in
        let all = flag_count call in
        record {
          count_listed = count ∙ ap length (sym lists);
          later_stay =
              (λ i. drop (count i) (lists_found call j o i)) ∙ drop-append_seam found (drop (length found) before) ∙ ap (λ n. drop n before) (sym count);
          as_long = ap length (lists_found call j o) ∙ simp (length-append, length-drop) (omega (arith, fits));
          count_bits = ap (λ (v : Verdict). v.count) (says_found call j o) ∙ count_bits (all_flags call) all ∙ ap bits_set (sym words_are);
          bit_listed = λ i h.
              ap (λ ws. bit_at ws i) words_are
              ∙ bit_is_flag (all_flags call) all i (omega arith)
              ∙ sym (found_once (all_flags call) all i h)
              ∙ ap (times (get_or codes i 0)) (sym lists);
          no_bit_behind = λ i h k.
              ap (λ ws. bit_at ws i) words_are
              ∙ bit_is_flag (all_flags call) all i k
              ∙ ap bit (get_or-eq_default (all_flags call) false (omega (arith, flag_count call)));
          rise = ap (rising_over 0) lists ∙ found_rise (all_flags call) all;
          by_rule = λ r m. ap (times r.code) lists ∙ rule_once call r m;
          by_form = λ f h k. ap (times (1000 + f)) lists ∙ form_once call f h k;
          no_other = λ x no-rule no-form. ap (times x) lists ∙ none_other call x no-rule no-form;
          sets_pair = is_written;
          pair_is = λ e.
              ap (λ l. pair_stands l call.line) (is_written e) ∙ stands_after call (sound call (is_clean e) t) is_framed;
          register_stays = λ h. keeps ∙ rw (not_clean h);
        }

  module _ (m : ℕ) (o : outcome call (length before) ≡ refused_outcome call m) where
    answer_is : verdict.answer ≡ m
    unfolding refused_by
    answer_is = ap (λ (v : Verdict). v.answer) (j.says ∙ ap (λ (x : Outcome). x.verdict) o)

  by_way : Way call (length before) → Condition2 call before verdict findings left
  unfolding verdict_of
  by_way (refused m h g e o) =
      record {
        not_refused = λ z. absurd (h (sym (answer_is m o) ∙ z));
        without_findings = λ r no-rule no-form. absurd (true≢false (sym r ∙ e));
      }
  by_way (stuck e t o) =
      record {
        not_refused = λ z. absurd (let w : ◌≡◌ {A = ℕ} 11 0 = sym (answer_is 11 o) ∙ z in omega arith);
        without_findings = λ r no-rule no-form. inr (answer_is 11 o);
      }
  by_way (heard e t o) =
      record {
        not_refused = λ z. not_refused e t o;
        without_findings = λ r no-rule no-form.
            let answer : verdict.answer ≡ 0 = ap (λ (v : Verdict). v.answer) (says_found call j o) in
            let count : verdict.count ≡ 0 = count_found call j o ∙ nothing_found call no-rule no-form in
            inl (rw (answer, count));
      }

  pub condition2 : Condition2 call before verdict findings left
  condition2 = by_way (way call (length before))
