-- One call: the ways in which it can end, and what an accepted line does to the register.
use mathlib.Core.Path.{◌≡◌, ◌∙◌, refl, sym, ap}
use mathlib.Core.Bool.{true, false, cond, not, true≢false}
use mathlib.Core.List.{List}
use Prim.Native.Nat.{ℕ, ◌≤◌, ◌<◌}
use native.Mathlib.Omega.{arith}
use borrow.Author.Tests.{eqb-true, eqb-false, not-false}
use lib.Dec.{eqb, leb, lit<}
use Rattle.text.specs.FirstFrom.{first_from}
use Rattle.text.proofs.Bools.{by_test, and_left}
use Rattle.calendar.specs.Day.{is_day}
use Rattle.calendar.specs.Moments.{is_moment}
use Rattle.calendar.proofs.Real.{real}
use Rattle.cells.specs.Cells.{cell}
use Rattle.register.specs.Frame.{version, day_width, framed, full}
use Rattle.register.specs.Rows.{rows_of, first_row, standing, standing_at}
use Rattle.register.specs.Table.{put_row}
use Rattle.register.specs.Written.{put, value_of}
use Rattle.std.specs.Prelude.{Option, None}
use Rattle.register.specs.declared.rows.Standing.{Standing}
use Rattle.register.specs.declared.rows.Standing.TheVariants.{Absent, Live, Cancelled}
use Rattle.register.proofs.Words.{same_refl}
use Rattle.register.proofs.PairLaws.{Shaped, pair_length}
use Rattle.register.proofs.RowLaws.{standing_found}
use Rattle.register.proofs.PutLaws.{put_version, put_framed, put_rows, cancelled_version, cancelled_put}
use Rattle.register.proofs.TableLaws.{look_put}
use Rattle.facts.specs.Call.{Call}
use Rattle.facts.specs.Words.{is_live, is_absent, is_cancelled}
use Rattle.facts.specs.Rules.{is_new, pair_stands, standing_of, flags, all_flags}
use Rattle.judge.specs.Refusal.{clean, early, not_whole, no_room}
use Rattle.judge.specs.Outcome.{pair_of, written, refused_outcome, judged_outcome, outcome}
use Rattle.judge.proofs.Firsts.{first_small, none_holds}
use Rattle.judge.proofs.Cases.{out_early, out_ten, out_eleven, out_judged}
use Rattle.conditions.specs.Condition1.{reached}
use Rattle.conditions.proofs.LineLaws.{no_flag, clean_4, clean_2, clean_shaped, clean_cxl}
use Rattle.conditions.proofs.TableLaws.{value_for, value_length}

-- refused by 1 to 10, refused by 11, or judged
pub data Way (c : Call) (room : ℕ) : Type 0 where
  refused : (m : ℕ) → (m ≡ 0 → ⊥) → (m ≡ 11 → ⊥) → reached c room ≡ false → outcome c room ≡ refused_outcome c m → Way c room
  stuck : reached c room ≡ true → no_room c ≡ true → outcome c room ≡ refused_outcome c 11 → Way c room
  heard : reached c room ≡ true → no_room c ≡ false → outcome c room ≡ judged_outcome c → Way c room

module _ (c : Call) (room : ℕ) where
  pub way : Way c room
  way =
      by_test
      (eqb (first_from 1 (early c room)) 0)
      (λ t.
      let none : first_from 1 (early c room) ≡ 0 = eqb-true _ _ t in
      by_test
      (not_whole c)
      (λ u. refused 10 (λ e. omega arith) (λ e. omega arith) (rw (t, u)) (out_ten c room none u))
      (λ u.
      by_test
      (no_room c)
      (λ v. stuck (rw (t, u)) v (out_eleven c room none u v))
      (λ v. heard (rw (t, u)) v (out_judged c room none u v))))
      (λ t.
      let some : first_from 1 (early c room) ≡ 0 → ⊥ = eqb-false _ _ t in
      let few : first_from 1 (early c room) ≤ 9 = first_small 0 (early c room) in
      refused (first_from 1 (early c room)) some (λ e. omega arith) (rw t) (out_early c room some))

-- a call that reaches its line has a real day, of eight digits at most
module _ (c : Call) (room : ℕ) (r : reached c room ≡ true) where
  is_moment_lem : is_moment c.day c.micro ≡ true
  is_moment_lem =
      let none : first_from 1 (early c room) ≡ 0 = eqb-true _ _ (and_left (eqb (first_from 1 (early c room)) 0) (not (not_whole c)) r) in
      not-false (is_moment c.day c.micro) (none_holds 0 (early c room) 6 none)

  pub reached_day : c.day < 4294967296
  unfolding is_moment
  reached_day = omega (arith, (real c.day (and_left (is_day c.day) (leb c.micro 86399999999) is_moment_lem)).year_to)

-- where a pair is nowhere it stands as absent
nowhere_absent : (register pair : List ℕ) → first_row register pair ≡ None → standing register pair ≡ Absent
unfolding standing_at
nowhere_absent register pair e = sym (standing_found register pair) ∙ ap (standing_at register) e

live_only : (s : Standing) → is_absent s ≡ false → is_cancelled s ≡ false → is_live s ≡ true
live_only Live a b = refl
live_only Absent a b = absurd (true≢false a)
live_only Cancelled a b = absurd (true≢false b)

-- what is true of a line that is accepted
pub record Sound (c : Call) : Type 0 where
  pub shape : Shaped (cell c.line 4) (cell c.line 2)
  -- its pair was live exactly if it is no NEW
  pub flips : is_live (standing_of c) ≡ not (is_new c.line)
  -- and where the pair has no row there is one left
  pub roomy : is_absent (standing_of c) ≡ true → full c.register ≡ false

module _ (c : Call) (clear : clean c ≡ true) (room : no_room c ≡ false) where
  not_live : is_new c.line ≡ true → is_live (standing_of c) ≡ false
  unfolding all_flags flags
  not_live t = rw (t, clean_4 c clear, clean_2 c clear) at (no_flag c clear 0 (lit< tt))

  live : is_new c.line ≡ false → is_live (standing_of c) ≡ true
  unfolding all_flags flags
  live t =
      live_only (standing_of c)
      (rw (clean_cxl c clear t, clean_4 c clear, clean_2 c clear) at (no_flag c clear 1 (lit< tt)))
      (rw (clean_cxl c clear t, clean_4 c clear, clean_2 c clear) at (no_flag c clear 2 (lit< tt)))

  pub sound : Sound c
  unfolding no_room
  sound =
      record {
        shape = clean_shaped c clear;
        flips = by_test (is_new c.line) (λ t. not_live t ∙ rw t) (λ t. live t ∙ rw t);
        roomy = λ a.
            by_test
            (is_new c.line)
            (λ t. rw (clear, t, a) at room)
            (λ t. absurd (absent_live (standing_of c) a (live t)));
      }
    where
      absent_live : (s : Standing) → is_absent s ≡ true → is_live s ≡ true → ⊥
      absent_live Absent a l = true≢false (sym l)
      absent_live Live a l = true≢false (sym a)
      absent_live Cancelled a l = true≢false (sym a)

-- an accepted line puts its pair's row
module _ (c : Call) (s : Sound c) where
  absent : first_row c.register (pair_of c.line) ≡ None → standing_of c ≡ Absent
  unfolding pair_stands
  absent e = nowhere_absent c.register (pair_of c.line) e

  -- what the pair's row then keeps
  abbrev value : List ℕ
  value = value_for (day_width c.register) c.line c.day

  pub written_is : written c ≡ put c.register (first_row c.register (pair_of c.line)) (pair_of c.line) value
  unfolding written
  written_is =
      by_test
      (is_new c.line)
      (λ t. rw t)
      (λ t.
      rw t
      (cancelled_put c.register (pair_of c.line) (first_row c.register (pair_of c.line)) c.day
      (λ e. true≢false (sym (sym (ap is_live (absent e)) ∙ s.flips ∙ rw t)))))

  pub no_row_room : first_row c.register (pair_of c.line) ≡ None → full c.register ≡ false
  no_row_room e = s.roomy (ap is_absent (absent e))

  -- so that the pair stands as the line says
  pub stands_after : framed c.register ≡ true → pair_stands (written c) c.line ≡ cond (is_new c.line) Live Cancelled
  unfolding pair_stands standing
  stands_after f =
      let pair : List ℕ = pair_of c.line in
      let row : Option ℕ = first_row c.register pair in
      let rows : rows_of (put c.register row pair value) ≡ put_row (rows_of c.register) pair value =
      put_rows c.register pair value f (pair_length (cell c.line 4) (cell c.line 2)) (value_length (day_width c.register) c.line c.day) no_row_room
      in
      ap (λ r. standing r pair) written_is
      ∙ rw (put_framed c.register row pair value, f, rows, look_put (rows_of c.register) pair value pair, same_refl pair)
      (by_test (is_new c.line) (λ t. rw t) (λ t. rw t))

-- what a call that is judged leaves in the register
pub judged_leaves : (c : Call) → (judged_outcome c).register ≡ cond (clean c) (written c) c.register
judged_leaves c = refl

-- the version is the one that the call finds
pub written_version : (c : Call) → version (written c) ≡ version c.register
unfolding written
written_version c =
    by_test
    (is_new c.line)
    (λ t. rw t (put_version c.register (first_row c.register (pair_of c.line)) (pair_of c.line) (value_of c.register Live c.day)))
    (λ t. rw t (cancelled_version c.register (first_row c.register (pair_of c.line)) c.day))
