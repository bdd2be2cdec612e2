-- Cell 30: UNT: D(18,17,19) and not zero, NOM: and MON: D(18,5,19).
use Rattle.std.specs.Prelude.{ℕ, cond, List, drop}
use Rattle.text.specs.Ascii.{ascii}
use Rattle.amount.specs.declared.Decimal.{Decimal}
use Rattle.amount.specs.declared.Quantity.{Quantity}
use Rattle.amount.specs.declared.Quantity.TheVariants.{Units, Nominal, Monetary, Malformed}
use Rattle.amount.specs.Decimal.{tagged, value_of, is_zero}

-- a quantity in units is not zero
abbrev pub units_of : Decimal → Quantity
units_of d = cond (is_zero d) Malformed (Units d)

unfoldable pub quantity_of : List ℕ → Quantity
quantity_of s =
    cond (tagged (ascii "UNT:") 18 17 19 s) (units_of (value_of (drop 4 s)))
    (cond (tagged (ascii "NOM:") 18 5 19 s) (Nominal (value_of (drop 4 s)))
    (cond (tagged (ascii "MON:") 18 5 19 s) (Monetary (value_of (drop 4 s)))
    Malformed))

-- the kinds of quantity, numbered from 2 on as the cell form lists them; 0 is malformed
abbrev pub quantity_kind : Quantity → ℕ
quantity_kind (Units d) = 2
quantity_kind (Nominal d) = 3
quantity_kind (Monetary d) = 4
quantity_kind Malformed = 0
