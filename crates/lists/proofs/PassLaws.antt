-- The pass of a look-up: the three questions of a list, asked of the rows from a place on.
use mathlib.Core.Path.{◌≡◌, ◌∙◌, sym}
use mathlib.Core.Bool.{Bool, true, false, ◌&&◌}
use mathlib.Core.List.{List}
use Prim.Native.Nat.{ℕ, ◌+◌, ◌-◌, ◌≤◌, ◌<◌}
use native.Mathlib.Nat.{add-sub_cancel_left}
use native.Mathlib.Omega.{arith}
use lib.ListN.{length, take, drop}
use Rattle.text.specs.Word.{starts_with}
use Rattle.text.specs.Number.{little_endian}
use Rattle.text.specs.Stride.{has_word, next_row}
use Rattle.text.proofs.Bools.{and_left, and_right}
use Rattle.text.proofs.WordLaws.{begins_within}
use Rattle.text.proofs.LoadLaws.{other_row, next_keeps}
use Rattle.lists.specs.declared.frame.Mark.{Mark}
use Rattle.lists.specs.declared.rows.Answers.{Answers}
use Rattle.lists.specs.Table.{key_width, row_width}
use Rattle.lists.specs.Rows.{keyed, some_row}
use Rattle.lists.specs.Questions.{first, second, third, row_says, list_says, joined, complete, Worded}
use Rattle.lists.proofs.FrameLaws.{widths}
use Rattle.lists.proofs.ScanLaws.{SomeSoFar, some_start, some_on, some_past, some_found, some_end, begins_with_key, key_unknown}

-- `found` answers for the rows before place `at`
pub record ReadSoFar (mark : Mark) (width : ℕ) (list key : List ℕ) (day : ℕ) (found : Answers) (at : ℕ) : Type 0 where
  pub wide : width ≡ row_width mark
  pub long : length key ≡ key_width mark
  pub near : at ≤ length list + 9
  pub one : SomeSoFar (keyed (key_width mark) key (first mark day)) width list at found.first
  pub two : SomeSoFar (keyed (key_width mark) key (second mark day)) width list at found.second
  pub three : SomeSoFar (keyed (key_width mark) key (third mark day)) width list at found.third

abbrev pub nothing : Answers
nothing = record { first = false; second = false; third = false }

-- a key of another length
pub read_none : (mark : Mark) (list key : List ℕ) (day : ℕ) → (length key ≡ key_width mark → ⊥) → nothing ≡ list_says mark list key day
read_none mark list key day h = λ i. record { first = unknown (first mark day) i; second = unknown (second mark day) i; third = unknown (third mark day) i }
  where
    unknown : (test : List ℕ → Bool) → false ≡ some_row (row_width mark) (key_width mark) key test list
    unknown test = key_unknown (key_width mark) key test (row_width mark) list h (widths mark).room

pub read_start : {mark : Mark} {width : ℕ} {list key : List ℕ} {day : ℕ} → width ≡ row_width mark → length key ≡ key_width mark → ReadSoFar mark width list key day nothing 9
read_start w l = record { wide = w; long = l; near = omega arith; one = some_start; two = some_start; three = some_start }

-- the row at a place, as the pass reads it
abbrev row_at : ℕ → ℕ → List ℕ → List ℕ
row_at width at list = take (at + width - at) (drop at list)

row_is : (width at : ℕ) (list : List ℕ) → row_at width at list ≡ take width (drop at list)
row_is width at list = rw (add-sub_cancel_left at width)

keyed_as : (k : ℕ) (key row : List ℕ) (t : Bool) (test : List ℕ → Bool) → length key ≡ k → starts_with key row ≡ t → keyed k key test row ≡ (t && test row)
keyed_as k key row t test l e = rw (← l, ← begins_with_key key row, e)

module _ {mark : Mark} {width : ℕ} {list key : List ℕ} {day : ℕ} {found : Answers} {at : ℕ} (so_far : ReadSoFar mark width list key day found at) where
  nonzero : 0 < width
  nonzero = rw so_far.wide (widths mark).nonzero

  module _ (fits : at + width ≤ length list) where
    as_keyed : (t : Bool) → starts_with key (row_at width at list) ≡ t → (test : List ℕ → Bool)
        → keyed (key_width mark) key test (take width (drop at list)) ≡ (t && test (row_at width at list))
    as_keyed t e test = rw (← row_is width at list) (keyed_as (key_width mark) key (row_at width at list) t test so_far.long e)

    pub read_past : starts_with key (row_at width at list) ≡ false → ReadSoFar mark width list key day found (at + width)
    read_past e =
        record {
          wide = so_far.wide;
          long = so_far.long;
          near = omega arith;
          one = some_past so_far.one nonzero fits (as_keyed false e (first mark day));
          two = some_past so_far.two nonzero fits (as_keyed false e (second mark day));
          three = some_past so_far.three nonzero fits (as_keyed false e (third mark day));
        }

    pub read_on : starts_with key (row_at width at list) ≡ true → {says now : Answers} → says ≡ row_says mark day (row_at width at list)
        → now ≡ joined found says → ReadSoFar mark width list key day now (at + width)
    read_on e {says} {now} f g =
        rw (g, f)
        (record {
          wide = so_far.wide;
          long = so_far.long;
          near = omega arith;
          one = some_on so_far.one nonzero fits (sym (as_keyed true e (first mark day)));
          two = some_on so_far.two nonzero fits (sym (as_keyed true e (second mark day)));
          three = some_on so_far.three nonzero fits (sym (as_keyed true e (third mark day)));
        })

  pub read_all : complete found ≡ true → found ≡ list_says mark list key day
  read_all e =
      let both = and_left (found.first && found.second) found.third e in
      rw (← so_far.wide)
      (λ i. record {
        first = some_found so_far.one (and_left found.first found.second both) i;
        second = some_found so_far.two (and_right found.first found.second both) i;
        third = some_found so_far.three (and_right (found.first && found.second) found.third e) i;
      })

  pub read_end : length list < at + width → found ≡ list_says mark list key day
  read_end short =
      rw (← so_far.wide)
      (λ i. record {
        first = some_end so_far.one nonzero short i;
        second = some_end so_far.two nonzero short i;
        third = some_end so_far.three nonzero short i;
      })

-- the numbers of a list, as the pass reads them
pub worded_as : {k width place size w p s key : ℕ} → Worded k width place size → k ≡ key → w ≡ width → p ≡ place → s ≡ size → Worded key w p s
worded_as worded a b c d = rw (← a, b, c, d) worded

-- rows with another word than the key's are passed
module _ {mark : Mark} {width place size : ℕ} (worded : Worded (key_width mark) width place size) where
  pub read_next :
      {list key : List ℕ} {day : ℕ} {found : Answers} {from : ℕ} → ReadSoFar mark width list key day found from
      → {asked at : ℕ} → asked ≡ little_endian size (drop place key) → at ≡ next_row width place size asked list from
      → ReadSoFar mark width list key day found at
  read_next {list} {key} {day} {found} {from} so_far {asked} asks next =
      rw next (next_keeps worded.rowed asked list (λ at. ReadSoFar mark width list key day found at) past from so_far)
    where
      room : place + size ≤ length key
      room = rw so_far.long worded.within

      inside : length key ≤ width
      inside = rw (so_far.long, so_far.wide) (widths mark).room

      other : (at : ℕ) → starts_with key (drop at list) ≡ false → starts_with key (row_at width at list) ≡ false
      other at e = rw (row_is width at list) (begins_within width key (drop at list) inside ∙ e)

      past : (at : ℕ) → at + width ≤ length list → has_word place size asked list at ≡ false → ReadSoFar mark width list key day found at
          → ReadSoFar mark width list key day found (at + width)
      past at fits e here = read_past here fits (other at (other_row place size key list at room asks e))
