-- What is asked of a list, a key and a day.
use Rattle.std.specs.Prelude.{ℕ, Bool, ◌&&◌, List}
use Rattle.cfi.specs.Rules.{violated}
use Rattle.lists.specs.declared.frame.Mark.{Mark}
use Rattle.lists.specs.declared.frame.Mark.TheVariants.{Lei, Cty, Ccy, Ven, Ins}
use Rattle.lists.specs.declared.lookups.LeiRows.{LeiRows}
use Rattle.lists.specs.declared.lookups.CurrencyRows.{CurrencyRows}
use Rattle.lists.specs.declared.lookups.VenueRows.{VenueRows}
use Rattle.lists.specs.declared.lookups.InstrumentRows.{InstrumentRows}
use Rattle.lists.specs.Table.{key_width, row_width}
use Rattle.lists.specs.Rows.{some_row}
use Rattle.lists.specs.Row.{unlapsed, any_status, lei_stands, lei_serves, country_on, current_on, pre_euro, venue_on, listed_on, cfi_of, cfi_on}

-- some row of the list of this mark with this key passes the test
abbrev pub some_in : Mark → List ℕ → List ℕ → (List ℕ → Bool) → Bool
some_in mark list key test = some_row (row_width mark) (key_width mark) key test list

-- with status 1, 3 or 4; with any of 1 to 4; with any of these, whenever registered
abbrev pub lei_rows : List ℕ → List ℕ → ℕ → LeiRows
lei_rows list key day =
    record {
      unlapsed = some_in Lei list key (lei_serves unlapsed day);
      any = some_in Lei list key (lei_serves any_status day);
      whenever = some_in Lei list key (lei_stands any_status day);
    }

abbrev pub country_known : List ℕ → List ℕ → ℕ → Bool
country_known list key day = some_in Cty list key (country_on day)

abbrev pub currency_rows : List ℕ → List ℕ → ℕ → CurrencyRows
currency_rows list key day = record { current = some_in Ccy list key (current_on day); pre_euro = some_in Ccy list key pre_euro }

abbrev pub venue_rows : List ℕ → List ℕ → ℕ → VenueRows
venue_rows list key day =
    record { kind1 = some_in Ven list key (venue_on 1 day); kind2 = some_in Ven list key (venue_on 2 day); kind3 = some_in Ven list key (venue_on 3 day) }

-- on the day: whatever its CFI, a CFI of 330, and one of 350
abbrev pub instrument_rows : List ℕ → List ℕ → ℕ → InstrumentRows
instrument_rows list key day =
    record { listed = some_in Ins list key (listed_on day); debt = some_in Ins list key (cfi_on 330 day); bond = some_in Ins list key (cfi_on 350 day) }

-- on the day, and violating the code of the rules by CFI with its own CFI in the place of cell 43, where the cells hold `kinds`
abbrev pub some_violates : ℕ → List ℕ → List ℕ → List ℕ → ℕ → Bool
some_violates code kinds list key day = some_in Ins list key (λ row. violated kinds (cfi_of row) code && listed_on day row)
