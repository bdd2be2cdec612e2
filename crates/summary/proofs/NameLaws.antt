-- A code is named by its bit; and the cells of a line, found from its start.
use mathlib.Core.Path.{◌≡◌, refl, sym, ap, ◌∙◌}
use mathlib.Core.Bool.{Bool, true, false}
use mathlib.Core.List.{List, [], ◌∷◌, ◌++◌}
use Prim.Native.Nat.{ℕ, zero, suc, ◌+◌, ◌-◌, ◌*◌, ◌/◌, ◌%◌, ◌^◌, ◌≤◌, ◌<◌}
use native.Mathlib.Nat.{div-div-eq-div-mul, mul_comm, pow-suc}
use native.Mathlib.Omega.{arith}
use borrow.Author.Tests.{ltb-true, ltb-false}
use lib.Dec.{eqb, ltb}
use lib.ListN.{length, get_or, take, drop}
use Rattle.text.proofs.Bools.{by_test}
use Rattle.cells.specs.Cells.{cell, cells_of}
use Rattle.reader.specs.Reading.{cell_from, place_after}
use Rattle.reader.proofs.ReadingLaws.{before_next, later_cell}
use Rattle.verdict.specs.Codes.{rule_codes, form_codes, polish_codes, codes, rule_count, code_count}
use Rattle.verdict.specs.Verdict.{bit}
use Rattle.verdict.specs.Counted.{bit_at}
use Rattle.verdict.specs.Bits.{bits_of, flags_in}
use Rattle.verdict.proofs.OrderLaws.{pick_once}
use Rattle.verdict.proofs.Promises.{code_count_lem, codes_rise}
use Rattle.summary.specs.Judged.{names}

-- bit j of a word is flag j
bits_digit : (k w j : ℕ) → j < k → get_or (bits_of k w) j false ≡ eqb (w / 2 ^ j % 2) 1
unfolding bits_of
bits_digit zero w j h = absurd (omega arith)
bits_digit (suc k) w zero h = let e : w / 2 ^ 0 ≡ w = omega arith in ap (λ (n : ℕ). eqb (n % 2) 1) (sym e)
bits_digit (suc k) w (suc j) h =
    let e : w / 2 / 2 ^ j ≡ w / 2 ^ suc j = div-div-eq-div-mul w 2 (2 ^ j) ∙ ap (λ (n : ℕ). w / n) (mul_comm 2 (2 ^ j) ∙ sym (pow-suc 2 j)) in
    bits_digit k (w / 2) j (omega arith) ∙ ap (λ (n : ℕ). eqb (n % 2) 1) e

left_of : (k w : ℕ) (more : List Bool) (j : ℕ) → j < k → get_or (bits_of k w ++ more) j false ≡ get_or (bits_of k w) j false
unfolding bits_of
left_of zero w more j h = absurd (omega arith)
left_of (suc k) w more zero h = refl
left_of (suc k) w more (suc j) h = left_of k (w / 2) more j (omega arith)

right_of : (k w : ℕ) (more : List Bool) (j : ℕ) → k ≤ j → get_or (bits_of k w ++ more) j false ≡ get_or more (j - k) false
unfolding bits_of
right_of zero w more j h = let e : j ≡ j - 0 = omega arith in ap (λ (n : ℕ). get_or more n false) e
right_of (suc k) w more zero h = absurd (omega arith)
right_of (suc k) w more (suc j) h = let e : j - k ≡ suc j - suc k = omega arith in right_of k (w / 2) more j (omega arith) ∙ ap (λ (n : ℕ). get_or more n false) e

flag_is_bit : (words : List ℕ) (j : ℕ) → j < length words * 64 → get_or (flags_in words) j false ≡ eqb (bit_at words j) 1
unfolding flags_in
flag_is_bit [] j h = absurd (omega arith)
flag_is_bit (w ∷ words) j h =
    by_test (ltb j 64)
    (λ t.
    let k : j < 64 = ltb-true j 64 t in
    let q : j / 64 ≡ 0 = omega arith in
    let r : j % 64 ≡ j = omega arith in
    rw (q, r) (left_of 64 w (flags_in words) j k ∙ bits_digit 64 w j k))
    (λ t.
    let k : 64 ≤ j = ltb-false j 64 t in
    let q : j / 64 ≡ suc ((j - 64) / 64) = omega arith in
    let r : j % 64 ≡ (j - 64) % 64 = omega arith in
    rw (q, r) (right_of 64 w (flags_in words) j k ∙ flag_is_bit words (j - 64) (omega arith)))

pub bit_once : (b : Bool) → eqb (bit b) 1 ≡ b
bit_once true = refl
bit_once false = refl

pub named : (words : List ℕ) (j : ℕ) → length words ≡ 3 → j < code_count → eqb (get_or words (j / 64) 0 / 2 ^ (j % 64) % 2) 1 ≡ names words (get_or codes j 0)
unfolding names
named words j all h =
    sym
    (ap (λ (n : ℕ). eqb n 1) (pick_once 0 codes (flags_in words) j codes_rise (omega (arith, code_count_lem)))
    ∙ bit_once (get_or (flags_in words) j false) ∙ flag_is_bit words j (omega (arith, all)))

-- the table of codes: the forms of cells 1 and 4
pub form_of_1 : get_or codes rule_count 0 ≡ 1001
unfolding codes rule_codes form_codes polish_codes
form_of_1 = refl

pub form_of_4 : get_or codes (rule_count + 3) 0 ≡ 1004
unfolding codes rule_codes form_codes polish_codes
form_of_4 = refl

-- the part up to the bar before the next place is the cell
pub cell_read : (s : List ℕ) (at : ℕ) {next : ℕ} {part : List ℕ} → next ≡ place_after s at → part ≡ take (next - 1 - at) (drop at s) → part ≡ cell_from s at
cell_read s at e p = p ∙ ap (λ (n : ℕ). take (n - 1 - at) (drop at s)) e ∙ before_next s at

-- the first cell, and the fourth from the places behind three
pub first_is : (s : List ℕ) → cell_from s 0 ≡ cell s 1
unfolding cell_from cell cells_of
first_is s = refl

pub fourth_is : (s : List ℕ) → cell_from s (place_after s (place_after s (place_after s 0))) ≡ cell s 4
unfolding cell_from cell cells_of
fourth_is s =
    sym
    (later_cell s 0 2 ∙ later_cell s (place_after s 0) 1 ∙ later_cell s (place_after s (place_after s 0)) 0)
