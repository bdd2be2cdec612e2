-- Condition 3, by induction over the run: the used rows are those that the history leaves.
use mathlib.Core.Path.{◌≡◌, ◌∙◌, refl, sym, ap, subst}
use mathlib.Core.Bool.{Bool, true, false, cond, not, ◌&&◌, ◌||◌, true≢false}
use mathlib.Core.List.Memᴰ.{head as here}
use mathlib.Core.List.Memᴰ.{tail as there}
use mathlib.Core.List.{List, [], ◌∷◌, Memᴰ as Among}
use Prim.Native.Nat.{ℕ}
use native.Mathlib.Omega.{arith}
use borrow.Author.Tests.{ne_eqb}
use lib.Dec.{eqb}
use lib.ListN.{length}
use Rattle.text.proofs.Bools.{by_test, and_left, and_right}
use Rattle.cells.specs.Cells.{cell}
use Rattle.forms.specs.Findings.{status_of}
use Rattle.register.specs.Frame.{full}
use Rattle.register.proofs.PairLaws.{Shaped}
use Rattle.facts.specs.Call.{Call}
use Rattle.facts.specs.Words.{is_live, is_absent, is_cancelled}
use Rattle.facts.specs.Rules.{Rule, rule, all_rules, OnNew, OnCxl, given, is_new, is_cxl, good, pair_stands, standing_of, all_flags}
use Rattle.verdict.specs.declared.Verdict.{Verdict}
use Rattle.verdict.specs.Verdict.{bit, verdict_of, refused_by}
use Rattle.verdict.specs.Counted.{times}
use Rattle.judge.specs.Refusal.{clean, no_room}
use Rattle.judge.specs.Outcome.{written, Outcome, refused_outcome, outcome, Judged}
use Rattle.conditions.specs.Condition1.{reached}
use Rattle.conditions.specs.Condition2.{accepted, listed}
use Rattle.conditions.specs.Condition3.{Answered, Event, Line, pair_in, Last, ever, was_new, was_cxl, last_accepted, pairs_accepted, Run, start, next, convert, Stands, Follows, Condition3}
use Rattle.conditions.proofs.LineLaws.{Known, new_known, cxl_known, good_shaped, clean_shaped, clean_cxl}
use Rattle.conditions.proofs.FoundLaws.{rule_once, clean_rule, listed_found}
use Rattle.conditions.proofs.TableLaws.{state_for, live_is, absent_is, cancelled_is, shaped_is, ever_shaped}
use Rattle.conditions.proofs.CallLaws.{judged_leaves, Way, refused, stuck, heard, way, reached_day, Sound, sound, written_is, no_row_room}
use Rattle.conditions.proofs.Kept.{Kept, kept_start, stands_as, one_row, day_is, used_is, full_is, kept_same, kept_put, kept_converted}

module _ {c : ℕ} {history : List Event} {register : List ℕ} (k : Kept c history register) where
  stand : Stands history register
  stand =
      record {
        one_row = λ p e. one_row k p (shaped_is p e);
        of_shape = ever_shaped history k.fit;
        no_more = used_is k;
        live = λ p e. ap is_live (stands_as k p (shaped_is p e)) ∙ live_is (last_accepted history p);
        day = λ p e. day_is k p (shaped_is p e);
      }

refused_not : (verdict : Verdict) (m : ℕ) → (m ≡ 0 → ⊥) → verdict ≡ refused_by m → accepted verdict ≡ false
unfolding refused_by
refused_not verdict m h e = ap accepted e ∙ rw (ne_eqb m 0 h)

judged_clean : (verdict : Verdict) (call : Call) → verdict ≡ verdict_of (all_flags call) → accepted verdict ≡ clean call
unfolding verdict_of clean
judged_clean verdict call e = ap accepted e

module _ {c : ℕ} {history : List Event} (call : Call) {before findings left : List ℕ} {verdict : Verdict} (k : Kept c history call.register)
    (j : Judged (outcome call (length before)) before verdict findings left) where
  abbrev this : Answered
  this = record { line = call.line; day = call.day; verdict = verdict }

  abbrev After : List ℕ → Type 0
  After register = Kept c (Line this ∷ history) register

  stays : accepted verdict ≡ false → left ≡ call.register → After left
  stays e r = subst (λ (x : List ℕ). After x) (sym r) (kept_same k this e)

  refusal_kept : (m : ℕ) → (m ≡ 0 → ⊥) → outcome call (length before) ≡ refused_outcome call m → After left
  refusal_kept m h o =
      stays (refused_not verdict m h (j.says ∙ ap (λ (x : Outcome). x.verdict) o)) (j.keeps ∙ ap (λ (x : Outcome). x.register) o)

  kept_way : Way call (length before) → After left
  kept_way (refused m h g r o) = refusal_kept m h o
  kept_way (stuck r t o) = refusal_kept 11 (λ e. omega arith) o
  kept_way (heard r t o) =
      let says : verdict ≡ verdict_of (all_flags call) = j.says ∙ ap (λ (x : Outcome). x.verdict) o in
      let keeps : left ≡ cond (clean call) (written call) call.register = j.keeps ∙ (ap (λ (x : Outcome). x.register) o ∙ judged_leaves call) in
      by_test
      (clean call)
      (λ e.
      let s : Sound call = sound call e t in
      subst (λ (x : List ℕ). After x) (sym (keeps ∙ rw e (written_is call s))) (kept_put k this (judged_clean verdict call says ∙ e) (record { shape = s.shape; small = reached_day call (length before) r }) (no_row_room call s)))
      (λ e. stays (judged_clean verdict call says ∙ e) (keeps ∙ rw e))

  kept_next : After left
  kept_next = kept_way (way call (length before))

pub kept : {c : ℕ} {history : List Event} {register : List ℕ} → Run c history register → Kept c history register
kept (start e) = kept_start e.framed_one e.none_used e.room
kept (next call run j) = kept_next call (kept run) j
kept (convert {target = target} run done) = kept_converted (kept run) target done

-- an accepted line is clean, and its row had room
module _ (call : Call) {before findings left : List ℕ} {verdict : Verdict} (j : Judged (outcome call (length before)) before verdict findings left)
    (is-accepted : accepted verdict ≡ true) where
  clear_way : Way call (length before) → (clean call ≡ true) × (no_room call ≡ false)
  clear_way (refused m h g r o) =
      absurd (true≢false (sym is-accepted ∙ refused_not verdict m h (j.says ∙ ap (λ (x : Outcome). x.verdict) o)))
  clear_way (stuck r t o) =
      absurd (true≢false (sym is-accepted ∙ refused_not verdict 11 (λ e. omega arith) (j.says ∙ ap (λ (x : Outcome). x.verdict) o)))
  clear_way (heard r t o) = (sym (judged_clean verdict call (j.says ∙ ap (λ (x : Outcome). x.verdict) o)) ∙ is-accepted, t)

  pub accepted_clear : (clean call ≡ true) × (no_room call ≡ false)
  accepted_clear = clear_way (way call (length before))

  new_or_cxl : (is_new call.line || is_cxl call.line) ≡ true
  new_or_cxl = by_test (is_new call.line) (λ t. rw t) (λ t. rw (t, clean_cxl call accepted_clear.0 t))

room_clean : (call : Call) → no_room call ≡ true → clean call ≡ true
unfolding no_room
room_clean call t = and_left (clean call) (is_new call.line && (is_absent (standing_of call) && full call.register)) t

-- what a call lists of a rule: its code once if the call reaches the rules and the rule gives it
module _ (call : Call) {before findings left : List ℕ} {verdict : Verdict} (j : Judged (outcome call (length before)) before verdict findings left)
    (r : Rule) (one : Among r all_rules) where
  none_listed : (m : ℕ) → outcome call (length before) ≡ refused_outcome call m → times r.code (listed verdict findings) ≡ 0
  unfolding refused_by times
  none_listed m o = ap (λ (v : Verdict). times r.code (listed v findings)) (j.says ∙ ap (λ (x : Outcome). x.verdict) o)

  rule_way : Way call (length before) → times r.code (listed verdict findings) ≡ bit (reached call (length before) && given call r)
  rule_way (refused m h g e o) = none_listed m o ∙ rw e
  rule_way (stuck e t o) = none_listed 11 o ∙ sym (rw e (ap bit (clean_rule call (room_clean call t) r one)))
  rule_way (heard e t o) = ap (times r.code) (listed_found call j o) ∙ rule_once call r one ∙ rw e

  rule_listed : times r.code (listed verdict findings) ≡ bit (reached call (length before) && given call r)
  rule_listed = rule_way (way call (length before))

-- the three rules of the pair
abbrev rule023 : Rule
rule023 = rule 23 OnNew (4 ∷ 2 ∷ []) (λ c. is_live (standing_of c))

abbrev rule024 : Rule
rule024 = rule 24 OnCxl (4 ∷ 2 ∷ []) (λ c. is_absent (standing_of c))

abbrev rule025 : Rule
rule025 = rule 25 OnCxl (4 ∷ 2 ∷ []) (λ c. is_cancelled (standing_of c))

guarded : (g x y : Bool) → (g ≡ true → x ≡ y) → (g && x) ≡ (g && y)
guarded true x y h = h refl
guarded false x y h = refl

-- what the next call answers
module _ {c : ℕ} {history : List Event} (call : Call) {before findings left : List ℕ} {verdict : Verdict} (k : Kept c history call.register)
    (j : Judged (outcome call (length before)) before verdict findings left) where
  abbrev last : Last
  last = last_accepted history (pair_in call.line)

  stands_last : Shaped (cell call.line 4) (cell call.line 2) → standing_of call ≡ state_for last
  unfolding pair_stands
  stands_last s = stands_as k (pair_in call.line) s

  -- of a rule that is judged for a status and reads cells 4 and 2
  by_pair : (on : Bool) → (on ≡ true → Known (status_of (cell call.line 1))) → (on && good call.line 4 && good call.line 2) ≡ true → standing_of call ≡ state_for last
  by_pair on known e =
      let two : (on && good call.line 4) ≡ true = and_left (on && good call.line 4) (good call.line 2) e in
      stands_last
      (good_shaped call.line (known (and_left on (good call.line 4) two)) (and_right on (good call.line 4) two)
      (and_right (on && good call.line 4) (good call.line 2) e))

  abbrev line : List ℕ
  line = call.line

  is_023 : given call rule023 ≡ (is_new line && good line 4 && good line 2 && was_new last)
  is_023 =
      guarded (is_new line && good line 4 && good line 2) (is_live (standing_of call)) (was_new last)
      (λ e. ap is_live (by_pair (is_new line) (new_known line) e) ∙ live_is last)

  is_024 : given call rule024 ≡ (is_cxl line && good line 4 && good line 2 && not (ever last))
  is_024 =
      guarded (is_cxl line && good line 4 && good line 2) (is_absent (standing_of call)) (not (ever last))
      (λ e. ap is_absent (by_pair (is_cxl line) (cxl_known line) e) ∙ absent_is last)

  is_025 : given call rule025 ≡ (is_cxl line && good line 4 && good line 2 && was_cxl last)
  is_025 =
      guarded (is_cxl line && good line 4 && good line 2) (is_cancelled (standing_of call)) (was_cxl last)
      (λ e. ap is_cancelled (by_pair (is_cxl line) (cxl_known line) e) ∙ cancelled_is last)

  no_room_is : no_room call ≡ (clean call && (is_new line && (not (ever last) && eqb (pairs_accepted history) c)))
  unfolding no_room
  no_room_is =
      guarded (clean call) (is_new line && (is_absent (standing_of call) && full call.register)) (is_new line && (not (ever last) && eqb (pairs_accepted history) c))
      (λ e i. is_new line && ((ap is_absent (stands_last (clean_shaped call e)) ∙ absent_is last) i && full_is k i))

  eleven_way : Way call (length before) → eqb verdict.answer 11 ≡ (reached call (length before) && no_room call)
  unfolding refused_by verdict_of
  eleven_way (refused m h g e o) =
      ap (λ (v : Verdict). eqb v.answer 11) (j.says ∙ ap (λ (x : Outcome). x.verdict) o) ∙ ne_eqb m 11 g ∙ rw e
  eleven_way (stuck e t o) = ap (λ (v : Verdict). eqb v.answer 11) (j.says ∙ ap (λ (x : Outcome). x.verdict) o) ∙ rw (e, t)
  eleven_way (heard e t o) = ap (λ (v : Verdict). eqb v.answer 11) (j.says ∙ ap (λ (x : Outcome). x.verdict) o) ∙ rw (e, t)

  follow : Follows c history call (length before) verdict findings
  follow =
      let reach : Bool = reached call (length before) in
      record {
        con023 = rule_listed call j rule023 (here refl) ∙ ap (λ b. bit (reach && b)) is_023;
        con024 = rule_listed call j rule024 (there (here refl)) ∙ ap (λ b. bit (reach && b)) is_024;
        con025 = rule_listed call j rule025 (there (there (here refl))) ∙ ap (λ b. bit (reach && b)) is_025;
        refusal11 = eleven_way (way call (length before)) ∙ ap (λ b. reach && b) no_room_is;
        kind = new_or_cxl call j;
      }

pub condition3 : {c : ℕ} {history : List Event} {register : List ℕ} → Run c history register → Condition3 c history register
condition3 {c} {history} {register} run =
    record {
      stands = stand (kept run);
      follows = λ call e j. follow call (subst (λ (r : List ℕ). Kept c history r) (sym e) (kept run)) j;
    }
