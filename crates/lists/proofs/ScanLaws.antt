-- One pass over the rows: what is left to read from a place on, proved over the width and the row's test.
use mathlib.Core.Path.{◌≡◌, ◌∙◌, refl, sym}
use mathlib.Core.Bool.{Bool, true, false, ◌||◌, or_assoc, or-false}
use mathlib.Core.List.{List, [], ◌∷◌}
use Prim.Native.Nat.{ℕ, zero, suc, ◌+◌, ◌*◌, ◌-◌, ◌/◌, ◌≤◌, ◌<◌}
use native.Mathlib.Omega.{arith}
use native.Mathlib.Nat.{div-mul-le_self, suc-mul}
use borrow.Author.Tests.{ne_eqb}
use lib.ListN.{length, take, drop, length-drop}
use lib.Seq.{length-take-le}
use Rattle.text.specs.Word.{same, starts_with}
use Rattle.text.proofs.WordLaws.{same_is}
use Rattle.lists.specs.Rows.{chunks, rows_from, rows_of, some, keyed, some_row}
use Rattle.lists.proofs.RowLaws.{next_row, no_row}

-- the answer for the rows before place `at` is `found`
pub record SomeSoFar (test : List ℕ → Bool) (width : ℕ) (list : List ℕ) (at : ℕ) (found : Bool) : Type 0 where
  pub left : some test (rows_of width list) ≡ (found || some test (rows_from width at list))

pub some_start : {test : List ℕ → Bool} {width : ℕ} {list : List ℕ} → SomeSoFar test width list 9 false
some_start = record { left = refl }

module _ {test : List ℕ → Bool} {width : ℕ} {list : List ℕ} {at : ℕ} {found : Bool} (so_far : SomeSoFar test width list at found) where
  pub some_on : 0 < width → at + width ≤ length list → {more : Bool} → more ≡ test (take width (drop at list)) → SomeSoFar test width list (at + width) (found || more)
  unfolding some
  some_on wide fits {more} e =
      record {
        left = so_far.left ∙ rw (next_row width at list wide fits, ← e) (sym (or_assoc found more (some test (rows_from width (at + width) list))));
      }

  pub some_past : 0 < width → at + width ≤ length list → test (take width (drop at list)) ≡ false → SomeSoFar test width list (at + width) found
  unfolding some
  some_past wide fits e = record { left = so_far.left ∙ rw (next_row width at list wide fits, e) }

  pub some_found : found ≡ true → found ≡ some test (rows_of width list)
  some_found e = e ∙ sym (so_far.left ∙ rw e)

  pub some_end : 0 < width → length list < at + width → found ≡ some test (rows_of width list)
  unfolding some
  some_end wide short = sym (so_far.left ∙ rw (no_row width at list wide short, or-false found))

-- the key of a row, compared where the row begins
pub begins_with_key : (key row : List ℕ) → starts_with key row ≡ same key (take (length key) row)
unfolding starts_with same
begins_with_key [] row = refl
begins_with_key (y ∷ key) [] = refl
begins_with_key (y ∷ key) (x ∷ row) = rw (begins_with_key key row)

-- a key of another length is no row's
other_length : (key s : List ℕ) → (length s ≡ length key → ⊥) → same key s ≡ false
other_length key s h = sym (same_is key s) ∙ rw (ne_eqb (length s) (length key) h)

pub no_such_key : (k : ℕ) (key : List ℕ) (test : List ℕ → Bool) (width n : ℕ) (s : List ℕ) → (length key ≡ k → ⊥) → k ≤ width → n * width ≤ length s
    → some (keyed k key test) (chunks n width s) ≡ false
unfolding some chunks
no_such_key k key test width zero s h l room = refl
no_such_key k key test width (suc n) s h l room =
    let step : suc n * width ≡ n * width + width = suc-mul n width in
    let row : length (take width s) ≡ width = length-take-le width s (omega arith) in
    let short : length (take k (take width s)) ≡ k = length-take-le k (take width s) (omega arith) in
    rw (other_length key (take k (take width s)) (λ e. h (sym e ∙ short)))
    (no_such_key k key test width n (drop width s) h l (rw length-drop (omega arith)))

pub key_unknown : (k : ℕ) (key : List ℕ) (test : List ℕ → Bool) (width : ℕ) (list : List ℕ) → (length key ≡ k → ⊥) → k ≤ width
    → false ≡ some_row width k key test list
unfolding rows_from
key_unknown k key test width list h l =
    sym (no_such_key k key test width ((length list - 9) / width) (drop 9 list) h l (rw length-drop (div-mul-le_self (length list - 9) width)))
