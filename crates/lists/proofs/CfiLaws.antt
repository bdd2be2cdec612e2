-- What a row of INS says by its CFI is what the rules by CFI say of it: some row violates 330, or 350, where the cells are wrong for it and the look-up
-- has such a row.
use mathlib.Core.Path.{◌≡◌, ◌∙◌, refl}
use mathlib.Core.Bool.{Bool, true, false, ◌&&◌, and_assoc, and-false}
use mathlib.Core.List.{List, [], ◌∷◌}
use Prim.Native.Nat.{ℕ}
use lib.Dec.{eqb}
use lib.ListN.{get_or, take}
use Rattle.text.specs.Word.{same}
use Rattle.cfi.specs.Rules.{UNT, PC, blank, violated, matches_code}
use Rattle.cfi.proofs.Findings.{violated_330, violated_350}
use Rattle.lists.specs.declared.frame.Mark.TheVariants.{Ins}
use Rattle.lists.specs.Rows.{rows_of, some, keyed, some_row}
use Rattle.lists.specs.Row.{cfi_of, listed_on, cfi_on}
use Rattle.lists.specs.Lookups.{some_in, instrument_rows, some_violates}

-- what holds of no row or of every row may be asked first
module _ (width k : ℕ) (key : List ℕ) (test : List ℕ → Bool) (list : List ℕ) where
  none : (rows : List (List ℕ)) → some (keyed k key (λ row. false)) rows ≡ false
  unfolding some
  none [] = refl
  none (row ∷ rows) = rw (and-false (same key (take k row))) (none rows)

  some_apart : (t : Bool) → some_row width k key (λ row. t && test row) list ≡ (t && some_row width k key test list)
  some_apart true = refl
  some_apart false = none (rows_of width list)

module _ (kinds list key : List ℕ) (day : ℕ) where
  by_rows : (code : ℕ) (wrong : Bool) → ((cfi : List ℕ) → violated kinds cfi code ≡ (wrong && matches_code code cfi))
      → some_violates code kinds list key day ≡ (wrong && some_in Ins list key (cfi_on code day))
  by_rows code wrong apart =
      (λ i. some_in Ins list key (λ row. ((λ j. apart (cfi_of row) j && listed_on day row) ∙ and_assoc wrong (matches_code code (cfi_of row)) (listed_on day row)) i))
      ∙ some_apart 26 12 key (cfi_on code day) list wrong

  pub debt_violates : some_violates 330 kinds list key day ≡ ((eqb (get_or kinds 30 0) UNT && eqb (get_or kinds 33 0) PC) && (instrument_rows list key day).debt)
  debt_violates = by_rows 330 (eqb (get_or kinds 30 0) UNT && eqb (get_or kinds 33 0) PC) (violated_330 kinds)

  pub bond_violates : some_violates 350 kinds list key day ≡ (blank (get_or kinds 35 0) && (instrument_rows list key day).bond)
  bond_violates = by_rows 350 (blank (get_or kinds 35 0)) (violated_350 kinds)
