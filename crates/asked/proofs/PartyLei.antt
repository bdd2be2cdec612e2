-- The two sets of conditions on a party's LEI, each by the answer of the rows that stands for it.
use Rattle.std.proofs.Common.{◌≡◌, ◌∙◌, ℕ, ◌<◌, ◌≤◌, Bool, true, List, sym, ap, arith}
use Rattle.ident.specs.Codes.{lei_right}
use Rattle.lists.specs.declared.lookups.LeiRows.{LeiRows}
use Rattle.lists.specs.Lookups.{lei_rows}
use Rattle.facts.specs.Words.{party_lei_good, lei_good}
use Rattle.facts.proofs.PartyLei.{until_2_july, from_3_july}

module _ (lei s : List ℕ) (t : ℕ) (rows : LeiRows) (right : Bool) (told : right ≡ lei_right s) (is : right ≡ true) (read : rows ≡ lei_rows lei s t) where
  pub until_the_day : t ≤ 20180702 → rows.whenever ≡ party_lei_good lei s t
  until_the_day h = rw (until_2_july lei s t h, sym told ∙ is) (ap (λ (x : LeiRows). x.whenever) read)

  pub from_the_day : 20180702 < t → rows.any ≡ party_lei_good lei s t
  unfolding lei_good
  from_the_day h = rw (from_3_july lei s t (omega (arith, h)), sym told ∙ is) (ap (λ (x : LeiRows). x.any) read)
