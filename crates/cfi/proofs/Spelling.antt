-- What the code finds in the table of a letter is what the rules find.
use mathlib.Core.Path.{◌≡◌, ◌∙◌, refl, sym}
use mathlib.Core.Bool.{Bool, true, ◌&&◌, ◌||◌, or-false}
use mathlib.Core.List.{List, [], ◌∷◌, map}
use Prim.Native.Nat.{ℕ}
use native.Mathlib.Omega.{arith}
use lib.Dec.{eqb}
use lib.ListN.{length, get_or}
use Rattle.std.specs.List.{list_any}
use Rattle.text.specs.Ascii.{ascii}
use Rattle.text.specs.Shape.{shape}
use Rattle.cfi.specs.declared.tables.Row.{Row}
use Rattle.cfi.specs.Rules.{Rule, rules, codes, any, broken, violated, matches_code, cfi_findings, words}
use Rattle.cfi.specs.Table.{rule_of, Spelled}
use Rattle.cfi.proofs.WalkLaws.{map_ext, matches_is, found_in}
use Rattle.cfi.proofs.GroupLaws.{rules_begun, group_finds}

-- each pattern is of six bytes
unfoldable pub six : List (List ℕ) → Bool
six [] = true
six (pattern ∷ patterns) = eqb (length pattern) 6 && six patterns

unfoldable pub all_six : List Rule → Bool
all_six [] = true
all_six (r ∷ rs) = six r.patterns && all_six rs

pub rules_six : all_six rules ≡ true
unfolding all_six six rules words
rules_six = refl

-- the patterns of 330 and of 350, as they stand in the code a second time
module _ (cfi : List ℕ) where
  pub debt_text : list_any (λ pattern. shape pattern cfi) (ascii "D*****" ∷ []) ≡ matches_code 330 cfi
  unfolding matches_code any rules words
  debt_text = sym (matches_is _ cfi) ∙ sym (or-false _)

  pub bond_text : list_any (λ pattern. shape pattern cfi) (ascii "DB****" ∷ ascii "DC****" ∷ ascii "DT****" ∷ ascii "DN****" ∷ []) ≡ matches_code 350 cfi
  unfolding matches_code any rules words
  bond_text = sym (matches_is _ cfi) ∙ sym (or-false _)

-- to ask the rows is to ask the rules that they write
rows_are : (test : Rule → Bool) (rows : List Row) → any (λ row. test (rule_of row)) rows ≡ any test (map rule_of rows)
unfolding any
rows_are test [] = refl
rows_are test (row ∷ rows) = λ i. test (rule_of row) || rows_are test rows i

pub found_is : (kinds cfi : List ℕ) {rows : List Row} → length cfi ≡ 6 → Spelled (get_or cfi 0 0) rows → found_in rows codes kinds cfi ≡ cfi_findings kinds cfi
unfolding found_in cfi_findings violated
found_is kinds [] h s = absurd (omega arith)
found_is kinds (x ∷ t) {rows} h s =
    map_ext
    (λ k.
    rows_are (λ r. eqb r.code k && broken kinds (x ∷ t) r) rows
    ∙ (λ j. any (λ r. eqb r.code k && broken kinds (x ∷ t) r) (s.rules_are j))
    ∙ group_finds x t kinds k rules rules_begun)
    codes

pub spelled_as : {letter : ℕ} {rows : List Row} (x : ℕ) → letter ≡ x → Spelled x rows → Spelled letter rows
spelled_as x e s = rw e s
