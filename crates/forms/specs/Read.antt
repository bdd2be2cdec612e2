-- What the cells of a line say, and the findings of a NEW line by groups of cells.
use Rattle.std.specs.Prelude.{ℕ, Bool, List, map}
use Rattle.text.specs.Number.{count_from}
use Rattle.cells.specs.Cells.{cell}
use Rattle.calendar.specs.Dates.{date_of}
use Rattle.calendar.specs.Moments.{when_of}
use Rattle.ident.specs.Party.{allowed7, allowed12, allowed57, allowed59, party_of}
use Rattle.baskets.specs.Underlying.{underlying_of}
use Rattle.amount.specs.Price.{price_of}
use Rattle.amount.specs.Quantity.{quantity_of}
use Rattle.forms.specs.declared.findings.Status.TheVariants.{New}
use Rattle.forms.specs.declared.read.Read.{Read}
use Rattle.forms.specs.Findings.{form_finding}

unfoldable pub read_of : List ℕ → Read
read_of line =
    record {
      buyer = party_of allowed7 (cell line 7);
      buyer_for = party_of allowed12 (cell line 12);
      seller = party_of allowed7 (cell line 16);
      seller_for = party_of allowed12 (cell line 21);
      investor = party_of allowed57 (cell line 57);
      executor = party_of allowed59 (cell line 59);
      date11 = date_of (cell line 11);
      date15 = date_of (cell line 15);
      date20 = date_of (cell line 20);
      date24 = date_of (cell line 24);
      date54 = date_of (cell line 54);
      date55 = date_of (cell line 55);
      moment = when_of (cell line 28);
      quantity = quantity_of (cell line 30);
      price = price_of (cell line 33);
      underlying = underlying_of (cell line 47);
    }

-- the findings of thirteen cells of a NEW line, from cell k on
abbrev pub new_forms : List ℕ → ℕ → List Bool
new_forms line k = map (λ f. form_finding New (cell line 47) f (cell line f)) (count_from k 13)
