-- That condition 3 bites: there are empty registers of both versions and every size, any call can come next, what a call leaves is settled,
-- and every accepted line turns its pair over and changes the register.
use mathlib.Core.Path.{◌≡◌, ◌∙◌, refl, sym, ap}
use mathlib.Core.Bool.{Bool, true, false, cond, not, ◌||◌, true≢false}
use mathlib.Core.List.{List, ◌∷◌, ◌++◌}
use Prim.Native.Nat.{ℕ, ◌+◌, ◌*◌, ◌-◌, ◌/◌, ◌≤◌, ◌<◌}
use native.Mathlib.Nat.{min-eq_left, mul-div_cancel}
use native.Mathlib.Omega.{arith}
use lib.Dec.{eqb, lit<}
use lib.ListN.{length, replicate, length-replicate}
use Rattle.text.specs.Ascii.{ascii}
use Rattle.text.specs.Word.{starts_with}
use Rattle.text.proofs.Bools.{by_test}
use Rattle.text.proofs.Determined.{same_both}
use Rattle.cells.specs.Cells.{cell}
use Rattle.register.specs.Frame.{width, version, day_width, used, capacity}
use Rattle.register.specs.Rows.{standing}
use Rattle.register.proofs.Words.{same_refl}
use Rattle.register.proofs.FrameLaws.{is_framed}
use Rattle.facts.specs.Call.{Call}
use Rattle.facts.specs.Words.{is_live}
use Rattle.facts.specs.Rules.{is_new, pair_stands}
use Rattle.verdict.specs.declared.Verdict.{Verdict}
use Rattle.judge.specs.Refusal.{clean}
use Rattle.judge.specs.Outcome.{Outcome, outcome, Judged}
use Rattle.conditions.specs.Condition2.{accepted}
use Rattle.conditions.specs.Condition3.{Event, Line, Pair, pair_in, same_pair, New, Cancelling, was_new, last_accepted, Empty, Run, next, bytes_of}
use Rattle.conditions.proofs.TableLaws.{is_shaped}
use Rattle.conditions.proofs.CallLaws.{Way, refused, stuck, heard, way, written_version, Sound, sound}
use Rattle.conditions.proofs.Condition3.{condition3, accepted_clear}

-- an empty register with room for c rows, of version 2 or 1: the head, and the bytes of each row
unfoldable pub fresh : Bool → ℕ → List ℕ
fresh dated c = ascii "TRN" ++ (cond dated 2 1 ∷ 0 ∷ 0 ∷ 0 ∷ 0 ∷ 0 ∷ replicate (c * cond dated 78 74) 0)

fresh_length : (dated : Bool) (c : ℕ) → length (fresh dated c) ≡ 9 + c * cond dated 78 74
unfolding fresh
fresh_length dated c = simp length-replicate (omega arith)

fresh_version :
    (dated : Bool) (c : ℕ)
    → ((eqb (version (fresh dated c)) 1 || eqb (version (fresh dated c)) 2) ≡ true) × (width (day_width (fresh dated c)) ≡ cond dated 78 74) × (0 < cond dated 78 74)
unfolding fresh version day_width
fresh_version true c = (refl, refl, lit< tt)
fresh_version false c = (refl, refl, lit< tt)

pub empty : (dated : Bool) (c : ℕ) → c ≤ 4294967295 → Empty c (fresh dated c)
unfolding fresh used capacity starts_with
empty dated c h =
    let (known, wide, some) = fresh_version dated c in
    let rows : length (fresh dated c) - 9 ≡ c * cond dated 78 74 = omega (arith, fresh_length dated c) in
    let fit : (length (fresh dated c) - 9) / width (day_width (fresh dated c)) ≡ c = rw (wide, rows) (mul-div_cancel c some) in
    let room : capacity (fresh dated c) ≡ c = rw fit (min-eq_left h) in
    record {
      framed_one =
          is_framed {register = fresh dated c} (record { head = omega (arith, fresh_length dated c); mark = refl; known = known; fits = omega arith });
      none_used = refl;
      room = room;
    }

-- whatever the call gets, its contract can be met, and so the run goes on
pub go_on :
    {c : ℕ} {history : List Event} (call : Call) (before : List ℕ) → Run c history call.register
    → Run c (Line (record { line = call.line; day = call.day; verdict = (outcome call (length before)).verdict }) ∷ history) (outcome call (length before)).register
go_on call before run = next call {before = before} run (record { says = refl; lists = refl; keeps = refl })

-- any two results that the contract permits coincide
pub one_result :
    {o : Outcome} {before f g r s : List ℕ} {v w : Verdict} → Judged o before v f r → Judged o before w g s → (v ≡ w) × (f ≡ g) × (r ≡ s)
one_result p q = (same_both p.says q.says, same_both p.lists q.lists, same_both p.keeps q.keeps)

-- a call keeps the version that it finds
pub same_version : (call : Call) (room : ℕ) → version (outcome call room).register ≡ version call.register
same_version call room = by_way (way call room)
  where
    by_way : Way call room → version (outcome call room).register ≡ version call.register
    by_way (refused m h g r o) = ap (λ (x : Outcome). version x.register) o
    by_way (stuck r t o) = ap (λ (x : Outcome). version x.register) o
    by_way (heard r t o) =
        ap (λ (x : Outcome). version x.register) o
        ∙ by_test (clean call) (λ e. rw e (written_version call)) (λ e. rw e)

-- an accepted line
module _ {c : ℕ} {history : List Event} (call : Call) {before findings left : List ℕ} {verdict : Verdict} (run : Run c history call.register)
    (j : Judged (outcome call (length before)) before verdict findings left)
    (is-accepted : accepted verdict ≡ true) where
  abbrev pair : Pair
  pair = pair_in call.line

  is_sound : Sound call
  is_sound = let (clear, room) = accepted_clear call j is-accepted in sound call clear room

  before_it : is_live (standing call.register (bytes_of pair)) ≡ not (is_new call.line)
  unfolding pair_stands
  before_it = is_sound.flips

  same_self : same_pair pair pair ≡ true
  same_self = rw (same_refl (cell call.line 4), same_refl (cell call.line 2))

  after_it : is_live (standing left (bytes_of pair)) ≡ is_new call.line
  unfolding last_accepted
  after_it =
      (condition3 (next call run j)).stands.live pair (is_shaped {p = pair} is_sound.shape)
      ∙ rw (is-accepted, same_self) (new_or_not (is_new call.line))
    where
      new_or_not : (b : Bool) → was_new (cond b New Cancelling) ≡ b
      new_or_not true = refl
      new_or_not false = refl

  -- it turns its pair over
  pub turns : is_live (standing left (bytes_of pair)) ≡ not (is_live (standing call.register (bytes_of pair)))
  turns = after_it ∙ twice (is_new call.line) ∙ ap not (sym before_it)
    where
      twice : (b : Bool) → b ≡ not (not b)
      twice true = refl
      twice false = refl

  -- so that it leaves other bytes than it found
  pub writes : left ≡ call.register → ⊥
  writes e = differs (is_live (standing call.register (bytes_of pair))) (sym (ap (λ r. is_live (standing r (bytes_of pair))) e) ∙ turns)
    where
      differs : (b : Bool) → b ≡ not b → ⊥
      differs true d = true≢false d
      differs false d = true≢false (sym d)
