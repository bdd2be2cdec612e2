-- The rows that a history leaves, and what they tell of it.
use mathlib.Core.Path.{◌≡◌, ◌∙◌, refl, sym, ap}
use mathlib.Core.Bool.{Bool, true, false, cond, not, ◌&&◌, ◌||◌, true≢false}
use mathlib.Core.List.{List, [], ◌∷◌, append-nil}
use Prim.Native.Nat.{ℕ, ◌+◌, ◌<◌}
use native.Mathlib.Omega.{arith}
use borrow.Author.Tests.{eqb-true, leb-true, eq-eqb, le-leb}
use lib.Dec.{eqb, leb}
use lib.ListN.{length, drop}
use Rattle.text.specs.Word.{same}
use Rattle.text.specs.Number.{little_endian}
use Rattle.text.proofs.Bools.{by_test, and_left, and_right}
use Rattle.cells.specs.Cells.{cell}
use Rattle.register.specs.Rows.{Row, look, stands_as}
use Rattle.register.specs.Table.{holds, rows_with, put_row}
use Rattle.register.specs.declared.rows.Standing.{Standing}
use Rattle.register.specs.declared.rows.Standing.TheVariants.{Absent, Live, Cancelled}
use Rattle.register.specs.Written.{little_bytes}
use Rattle.register.proofs.Words.{same_true, little_read, little_length}
use Rattle.register.proofs.PairLaws.{Shaped, same_key}
use Rattle.register.proofs.TableLaws.{look_put, count_put, length_put}
use Rattle.register.proofs.ConversionLaws.{undated_rows, look_undated, stands_undated, day_undated, holds_undated, count_undated, length_undated}
use Rattle.facts.specs.Words.{is_live, is_absent, is_cancelled}
use Rattle.facts.specs.Rules.{is_new}
use Rattle.verdict.specs.Verdict.{bit}
use Rattle.conditions.specs.Condition2.{accepted}
use Rattle.conditions.specs.Condition3.{Answered, Event, Line, Conversion, Pair, pair_in, same_pair, Last, Never, New, Cancelling, ever, was_new, was_cxl, kind_of, takes, last_accepted, last_day, pairs_accepted, shaped, bytes_of}

-- what a pair's row keeps once its line was accepted: the state, and the day in n bytes
abbrev pub value_for : ℕ → List ℕ → ℕ → List ℕ
value_for n line day = cond (is_new line) 1 2 ∷ little_bytes n day

pub value_length : (n : ℕ) (line : List ℕ) (day : ℕ) → length (value_for n line day) ≡ 1 + n
value_length n line day = omega (arith, little_length n day)

-- the rows after a history: each accepted line puts its pair's, and a conversion gives those of version 1 day 0
unfoldable pub rows_for : ℕ → List Event → List Row
rows_for n [] = []
rows_for n (Line a ∷ earlier) =
    cond (accepted a.verdict) (put_row (rows_for n earlier) (bytes_of (pair_in a.line)) (value_for n a.line a.day)) (rows_for n earlier)
rows_for n (Conversion ∷ earlier) = undated_rows (rows_for 0 earlier)

-- the pair of an accepted line has the right shape, and its day has 32 bits
pub record Fit (a : Answered) : Type 0 where
  pub shape : Shaped (cell a.line 4) (cell a.line 2)
  pub small : a.day < 4294967296

pub data AllFit : List Event → Type 0 where
  none : AllFit []
  more : {a : Answered} {earlier : List Event} → (accepted a.verdict ≡ true → Fit a) → AllFit earlier → AllFit (Line a ∷ earlier)
  turned : {earlier : List Event} → AllFit earlier → AllFit (Conversion ∷ earlier)

-- as which the register shows a pair
abbrev pub state_for : Last → Standing
state_for Never = Absent
state_for New = Live
state_for Cancelling = Cancelled

pub live_is : (l : Last) → is_live (state_for l) ≡ was_new l
live_is Never = refl
live_is New = refl
live_is Cancelling = refl

pub absent_is : (l : Last) → is_absent (state_for l) ≡ not (ever l)
absent_is Never = refl
absent_is New = refl
absent_is Cancelling = refl

pub cancelled_is : (l : Last) → is_cancelled (state_for l) ≡ was_cxl l
cancelled_is Never = refl
cancelled_is New = refl
cancelled_is Cancelling = refl

-- a pair has a row after a put exactly if it was put or had one
or_twice : (a b : Bool) → (a || b) ≡ (a || (a || b))
or_twice true b = refl
or_twice false b = refl

or_swap : (a b c : Bool) → (a || (b || c)) ≡ (b || (a || c))
or_swap true true c = refl
or_swap true false c = refl
or_swap false b c = refl

holds_put : (rows : List Row) (pair value other : List ℕ) → holds (put_row rows pair value) other ≡ (same other pair || holds rows other)
unfolding holds put_row
holds_put [] pair value other = refl
holds_put (row ∷ rows) pair value other =
    by_test
    (same pair row.key)
    (λ t.
    let k : same other row.key ≡ same other pair = ap (same other) (same_true pair row.key t) in
    rw (t, k) (or_twice (same other pair) (holds rows other)))
    (λ t.
    rw t
    (ap (λ h. same other row.key || h) (holds_put rows pair value other)
    ∙ or_swap (same other row.key) (same other pair) (holds rows other)))

-- one line more: b if it was accepted, m if its pair is the one asked for
module _ (n : ℕ) (a : Answered) (rows : List Row) (last : Last) (key pair : List ℕ) where
  abbrev kind : Last
  kind = kind_of a.line

  abbrev value : List ℕ
  value = value_for n a.line a.day

  stands_kind : stands_as value ≡ state_for kind
  stands_kind = by_test (is_new a.line) (λ t. rw t) (λ t. rw t)

  ever_kind : ever kind ≡ true
  ever_kind = by_test (is_new a.line) (λ t. rw t) (λ t. rw t)

  look_line :
      (b m : Bool) → (b ≡ true → same pair key ≡ m) → stands_as (look rows pair) ≡ state_for last
      → stands_as (look (cond b (put_row rows key value) rows) pair) ≡ state_for (cond (b && m) kind last)
  look_line true true h e = ap stands_as (look_put rows key value pair) ∙ rw (h refl) stands_kind
  look_line true false h e = ap stands_as (look_put rows key value pair) ∙ rw (h refl) e
  look_line false m h e = e

  holds_line :
      (b m : Bool) → (b ≡ true → same pair key ≡ m) → holds rows pair ≡ ever last
      → holds (cond b (put_row rows key value) rows) pair ≡ ever (cond (b && m) kind last)
  holds_line true true h e = holds_put rows key value pair ∙ rw (h refl) (sym ever_kind)
  holds_line true false h e = holds_put rows key value pair ∙ rw (h refl) e
  holds_line false m h e = e

  count_line :
      (b m : Bool) → (b ≡ true → same pair key ≡ m) → holds rows pair ≡ ever last → rows_with rows pair ≡ bit (ever last)
      → rows_with (cond b (put_row rows key value) rows) pair ≡ bit (ever (cond (b && m) kind last))
  count_line true true h e k =
      let there : holds rows key ≡ ever last = ap (holds rows) (same_true pair key (h refl)) ∙ e in
      count_put rows key value pair ∙ rw (h refl, there, k, ever_kind) (one_more (ever last))
    where
      one_more : (t : Bool) → cond (not t) 1 0 + bit t ≡ 1
      one_more true = refl
      one_more false = refl
  count_line true false h e k = count_put rows key value pair ∙ rw (h refl) (omega (arith, k))
  count_line false m h e k = k

  length_line :
      (b : Bool) (k : ℕ) → (b ≡ true → holds rows key ≡ ever last) → length rows ≡ k
      → length (cond b (put_row rows key value) rows) ≡ bit (b && not (ever last)) + k
  length_line true k h e = length_put rows key value ∙ rw (h refl, e) (other (ever last))
    where
      other : (t : Bool) → cond t 0 1 + k ≡ bit (not t) + k
      other true = refl
      other false = refl
  length_line false k h e = omega (arith, e)

-- the day that is read of four bytes behind a state
abbrev pub day_in : List ℕ → ℕ
day_in value = little_endian 4 (drop 1 value)

day_line :
    (a : Answered) (rows : List Row) (day : ℕ) (key pair : List ℕ) (b m : Bool) → (b ≡ true → same pair key ≡ m) → (b ≡ true → a.day < 4294967296)
    → day_in (look rows pair) ≡ day → day_in (look (cond b (put_row rows key (value_for 4 a.line a.day)) rows) pair) ≡ cond (b && m) a.day day
day_line a rows day key pair true true h small e =
    ap day_in (look_put rows key (value_for 4 a.line a.day) pair)
    ∙ rw (h refl) (ap (little_endian 4) (sym (append-nil (little_bytes 4 a.day))) ∙ little_read 4 a.day [] (omega (arith, small refl)))
day_line a rows day key pair true false h small e = ap day_in (look_put rows key (value_for 4 a.line a.day) pair) ∙ rw (h refl) e
day_line a rows day key pair false m h small e = e

-- how a pair stands, whether it has a row, how many, and on which day it was set last
module _ (p : Pair) (s : Shaped p.entity p.reference) where
  -- the bytes of the line's pair are those asked for exactly if it is the pair
  own : (a : Answered) → (accepted a.verdict ≡ true → Fit a) → accepted a.verdict ≡ true
      → same (bytes_of p) (bytes_of (pair_in a.line)) ≡ same_pair p (pair_in a.line)
  own a g t = same_key s (g t).shape

  pub look_last : (n : ℕ) (history : List Event) → AllFit history → stands_as (look (rows_for n history) (bytes_of p)) ≡ state_for (last_accepted history p)
  unfolding rows_for look last_accepted
  look_last n [] none = refl
  look_last n (Line a ∷ h) (more g gs) =
      look_line n a (rows_for n h) (last_accepted h p) (bytes_of (pair_in a.line)) (bytes_of p) (accepted a.verdict) (same_pair p (pair_in a.line)) (own a g)
      (look_last n h gs)
  look_last n (Conversion ∷ h) (turned gs) =
      ap stands_as (look_undated (rows_for 0 h) (bytes_of p)) ∙ stands_undated (look (rows_for 0 h) (bytes_of p)) ∙ look_last 0 h gs

  pub holds_last : (n : ℕ) (history : List Event) → AllFit history → holds (rows_for n history) (bytes_of p) ≡ ever (last_accepted history p)
  unfolding rows_for holds last_accepted
  holds_last n [] none = refl
  holds_last n (Line a ∷ h) (more g gs) =
      holds_line n a (rows_for n h) (last_accepted h p) (bytes_of (pair_in a.line)) (bytes_of p) (accepted a.verdict) (same_pair p (pair_in a.line)) (own a g)
      (holds_last n h gs)
  holds_last n (Conversion ∷ h) (turned gs) = holds_undated (rows_for 0 h) (bytes_of p) ∙ holds_last 0 h gs

  pub count_last : (n : ℕ) (history : List Event) → AllFit history → rows_with (rows_for n history) (bytes_of p) ≡ bit (ever (last_accepted history p))
  unfolding rows_for rows_with last_accepted
  count_last n [] none = refl
  count_last n (Line a ∷ h) (more g gs) =
      count_line n a (rows_for n h) (last_accepted h p) (bytes_of (pair_in a.line)) (bytes_of p) (accepted a.verdict) (same_pair p (pair_in a.line)) (own a g)
      (holds_last n h gs) (count_last n h gs)
  count_last n (Conversion ∷ h) (turned gs) = count_undated (rows_for 0 h) (bytes_of p) ∙ count_last 0 h gs

  pub day_last : (history : List Event) → AllFit history → day_in (look (rows_for 4 history) (bytes_of p)) ≡ last_day history p
  unfolding rows_for look last_day
  day_last [] none = refl
  day_last (Line a ∷ h) (more g gs) =
      day_line a (rows_for 4 h) (last_day h p) (bytes_of (pair_in a.line)) (bytes_of p) (accepted a.verdict) (same_pair p (pair_in a.line)) (own a g)
      (λ t. (g t).small) (day_last h gs)
  day_last (Conversion ∷ h) (turned gs) = ap day_in (look_undated (rows_for 0 h) (bytes_of p)) ∙ day_undated (look (rows_for 0 h) (bytes_of p))

-- and how many rows there are
pub length_last : (n : ℕ) (history : List Event) → AllFit history → length (rows_for n history) ≡ pairs_accepted history
unfolding rows_for pairs_accepted
length_last n [] none = refl
length_last n (Line a ∷ h) (more g gs) =
    length_line n a (rows_for n h) (last_accepted h (pair_in a.line)) (bytes_of (pair_in a.line)) [] (accepted a.verdict) (pairs_accepted h)
    (λ t. holds_last (pair_in a.line) (g t).shape n h gs) (length_last n h gs)
length_last n (Conversion ∷ h) (turned gs) = length_undated (rows_for 0 h) ∙ length_last 0 h gs

-- `shaped` in both directions
pub shaped_is : (p : Pair) → shaped p ≡ true → Shaped p.entity p.reference
shaped_is p e =
    let long : Bool = eqb (length p.entity) 20 in
    let some : Bool = leb 1 (length p.reference) in
    let most : Bool = leb (length p.reference) 52 in
    let two : (long && some) ≡ true = and_left (long && some) most e in
    record {
      entity_length = eqb-true _ _ (and_left long some two);
      some = leb-true _ _ (and_right long some two);
      most = leb-true _ _ (and_right (long && some) most e);
    }

pub is_shaped : {p : Pair} → Shaped p.entity p.reference → shaped p ≡ true
is_shaped s = rw (eq-eqb _ _ s.entity_length, le-leb _ _ s.some, le-leb _ _ s.most)

-- every pair ever accepted has the right shape
pub ever_shaped : (history : List Event) → AllFit history → (p : Pair) → ever (last_accepted history p) ≡ true → shaped p ≡ true
unfolding last_accepted
ever_shaped [] none p e = absurd (true≢false (sym e))
ever_shaped (Conversion ∷ h) (turned gs) p e = ever_shaped h gs p e
ever_shaped (Line a ∷ h) (more g gs) p e =
    by_test
    (takes a p)
    (λ t.
    let s : Shaped (cell a.line 4) (cell a.line 2) = (g (and_left (accepted a.verdict) (same_pair p (pair_in a.line)) t)).shape in
    let m : same_pair p (pair_in a.line) ≡ true = and_right (accepted a.verdict) (same_pair p (pair_in a.line)) t in
    let one : cell a.line 4 ≡ p.entity = same_true _ _ (and_left (same p.entity (cell a.line 4)) (same p.reference (cell a.line 2)) m) in
    let two : cell a.line 2 ≡ p.reference = same_true _ _ (and_right (same p.entity (cell a.line 4)) (same p.reference (cell a.line 2)) m) in
    is_shaped {p = p} (rw (one, two) at s))
    (λ t. ever_shaped h gs p (rw t at e))
