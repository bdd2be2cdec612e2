-- The two sets of conditions for a party's LEI: which one falls to a day, that they are one set row by row, and which is the wider.
use mathlib.Core.Path.{◌≡◌, refl, sym}
use mathlib.Core.Bool.{Bool, true, false, cond, ◌&&◌, ◌||◌, and-true, or-true}
use mathlib.Core.List.{List}
use Prim.Native.Nat.{ℕ, ◌≤◌}
use native.Mathlib.Omega.{arith}
use lib.Dec.{leb}
use borrow.Author.Tests.{le-leb, lt-leb}
use Rattle.text.proofs.Bools.{and_left, and_right}
use Rattle.ident.specs.Codes.{lei_right}
use Rattle.lists.specs.declared.frame.Mark.TheVariants.{Lei}
use Rattle.lists.specs.Row.{day_at, any_status, lei_stands, lei_serves}
use Rattle.lists.specs.Table.{key_width, row_width}
use Rattle.lists.specs.Lookups.{some_in, lei_rows}
use Rattle.lists.proofs.SomeLaws.{some_weaker}
use Rattle.facts.specs.Words.{lei_good, party_lei_good}

module _ (lei s : List ℕ) (t : ℕ) where
  pub until_2_july : t ≤ 20180702 → party_lei_good lei s t ≡ (lei_right s && (lei_rows lei s t).whenever)
  unfolding party_lei_good
  until_2_july h = rw (le-leb t 20180702 h)

  pub from_3_july : 20180703 ≤ t → party_lei_good lei s t ≡ lei_good lei s t
  unfolding party_lei_good lei_good
  from_3_july h = rw (lt-leb t 20180702 (omega (arith, h)))

  -- what the two sets share, and registered by T unless T is free of that
  abbrev stands : Bool → List ℕ → Bool
  stands free row = lei_stands any_status t row && (free || leb (day_at 22 row) t)

  -- remainder 1 by 97, and some row has it with status 1 to 4, active or inactive with update on or after T, and, from 2018-07-03 on,
  -- registered by T
  pub row_by_row : party_lei_good lei s t ≡ (lei_right s && some_in Lei lei s (stands (leb t 20180702)))
  unfolding party_lei_good
  row_by_row = λ i. lei_right s && chosen (leb t 20180702) i
    where
      chosen : (free : Bool) → cond free (lei_rows lei s t).whenever (lei_rows lei s t).any ≡ some_in Lei lei s (stands free)
      chosen true = λ i. some_in Lei lei s (λ row. sym (and-true (lei_stands any_status t row)) i)
      chosen false = refl

  -- whoever has no finding with the registration date has none without
  pub still_good : lei_good lei s t ≡ true → party_lei_good lei s t ≡ true
  unfolding lei_good
  still_good e =
      let weaker : (row : List ℕ) → lei_serves any_status t row ≡ true → stands (leb t 20180702) row ≡ true =
      λ row r. rw (and_left (lei_stands any_status t row) _ r, and_right (lei_stands any_status t row) _ r) (or-true (leb t 20180702)) in
      rw (row_by_row, and_left (lei_right s) _ e)
      (some_weaker (row_width Lei) (key_width Lei) s (lei_serves any_status t) (stands (leb t 20180702)) lei weaker (and_right (lei_right s) _ e))
