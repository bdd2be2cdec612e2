-- A register that follows a history: its used rows are those that the history leaves. Over every version and row width.
use mathlib.Core.Path.{◌≡◌, ◌∙◌, refl, sym, ap, subst}
use mathlib.Core.Bool.{true, false, true≢false}
use mathlib.Core.List.{List, [], ◌∷◌}
use Prim.Native.Nat.{ℕ, ◌≤◌}
use lib.Dec.{eqb}
use lib.ListN.{length, drop}
use lib.Seq.{sets}
use Rattle.text.specs.Number.{little_endian}
use Rattle.cells.specs.Cells.{cell}
use Rattle.register.specs.Frame.{place, version, day_width, used, capacity, framed, full}
use Rattle.register.specs.Rows.{rows_in, rows_of, look, first_row, standing, day_of}
use Rattle.register.specs.Table.{rows_with}
use Rattle.register.specs.Written.{put}
use Rattle.register.specs.Conversion.{in_version2, Converted}
use Rattle.std.specs.Prelude.{None}
use Rattle.register.proofs.PairLaws.{Shaped, pair_length}
use Rattle.register.proofs.RowLaws.{rows_counted}
use Rattle.register.proofs.PutLaws.{put_rows, put_framed, put_day, put_capacity}
use Rattle.register.proofs.ConversionLaws.{conversion_is, first_undated, undated_rows, converted_framed, converted_rows}
use Rattle.verdict.specs.Verdict.{bit}
use Rattle.conditions.specs.Condition2.{accepted}
use Rattle.conditions.specs.Condition3.{Answered, Event, Line, Conversion, Pair, pair_in, ever, last_accepted, last_day, pairs_accepted, bytes_of}
use Rattle.conditions.proofs.TableLaws.{value_for, value_length, rows_for, Fit, AllFit, none, more, turned, state_for, look_last, count_last, day_last, length_last}

pub record Kept (c : ℕ) (history : List Event) (register : List ℕ) : Type 0 where
  pub framed_one : framed register ≡ true
  pub room : capacity register ≡ c
  pub rows : rows_of register ≡ rows_for (day_width register) history
  pub fit : AllFit history

pub kept_start : {c : ℕ} {register : List ℕ} → framed register ≡ true → used register ≡ 0 → capacity register ≡ c → Kept c [] register
unfolding rows_in rows_for
kept_start {c} {register} f u r =
    record { framed_one = f; room = r; rows = ap (λ k. rows_in (day_width register) k (drop 9 register)) u; fit = none }

-- what it tells of any pair of right shape, and of its room
module _ {c : ℕ} {history : List Event} {register : List ℕ} (k : Kept c history register) where
  abbrev n : ℕ
  n = day_width register

  module _ (p : Pair) (s : Shaped p.entity p.reference) where
    pub stands_as : standing register (bytes_of p) ≡ state_for (last_accepted history p)
    unfolding standing
    stands_as = rw (k.framed_one, k.rows) (look_last p s n history k.fit)

    pub one_row : rows_with (rows_of register) (bytes_of p) ≡ bit (ever (last_accepted history p))
    one_row = rw k.rows (count_last p s n history k.fit)

    pub day_is : version register ≡ 2 → day_of register (bytes_of p) ≡ last_day history p
    unfolding day_of day_width
    day_is two =
        let four : n ≡ 4 = rw two in
        (λ i. little_endian (four i) (drop 1 (look ((k.rows ∙ ap (λ m. rows_for m history) four) i) (bytes_of p)))) ∙ day_last p s history k.fit

  pub used_is : used register ≡ pairs_accepted history
  used_is = sym (rows_counted n (used register) (drop 9 register)) ∙ ap length k.rows ∙ length_last n history k.fit

  pub full_is : full register ≡ eqb (pairs_accepted history) c
  unfolding full
  full_is = rw k.framed_one (λ i. eqb (used_is i) (k.room i))

  -- a line that is not accepted leaves the register as it was, an accepted one puts its pair's row
  pub kept_same : (a : Answered) → accepted a.verdict ≡ false → Kept c (Line a ∷ history) register
  unfolding rows_for
  kept_same a e =
      record {
        framed_one = k.framed_one;
        room = k.room;
        rows = k.rows ∙ rw e;
        fit = more (λ t. absurd (true≢false (sym t ∙ e))) k.fit;
      }

  module _ (a : Answered) (e : accepted a.verdict ≡ true) (fits : Fit a)
      (left : first_row register (bytes_of (pair_in a.line)) ≡ None → full register ≡ false) where
    abbrev pair : List ℕ
    pair = bytes_of (pair_in a.line)

    abbrev after : List ℕ
    after = put register (first_row register pair) pair (value_for n a.line a.day)

    pub kept_put : Kept c (Line a ∷ history) after
    unfolding rows_for
    kept_put =
        record {
          framed_one = put_framed register (first_row register pair) pair (value_for n a.line a.day) ∙ k.framed_one;
          room = put_capacity register (first_row register pair) pair (value_for n a.line a.day) ∙ k.room;
          rows =
              put_rows register pair (value_for n a.line a.day) k.framed_one (pair_length (cell a.line 4) (cell a.line 2)) (value_length n a.line a.day) left
              ∙ rw (k.rows, e, put_day register (first_row register pair) pair (value_for n a.line a.day));
          fit = more (λ t. fits) k.fit;
        }

-- a conversion that is not refused gives each row day 0
module _ {c : ℕ} {history : List Event} {source : List ℕ} (k : Kept c history source) (target : List ℕ) where
  abbrev turn : List ℕ
  turn = sets target 0 (in_version2 source)

  kept_turned : framed source ≡ true → version source ≡ 1 → place 4 (used source) ≤ length target → Kept (capacity turn) (Conversion ∷ history) turn
  unfolding rows_for
  kept_turned whole one room =
      record {
        framed_one = converted_framed source target whole one room;
        room = refl;
        rows = converted_rows source target whole one room ∙ ap undated_rows (k.rows ∙ ap (λ m. rows_for m history) (first_undated source one));
        fit = turned k.fit;
      }

  pub kept_converted : {left : List ℕ} → Converted source target 0 left → Kept (capacity left) (Conversion ∷ history) left
  kept_converted {left} done =
      let (whole, one, room, is) = conversion_is source target (sym done.says) in
      subst (λ (x : List ℕ). Kept (capacity x) (Conversion ∷ history) x) (sym (done.leaves ∙ is)) (kept_turned whole one room)
