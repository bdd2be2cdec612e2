-- Cells 33 and 51: PNDG, NOAP, PC: D(11,10,19), MV: D(18,13,19), YLD: D(11,10,12), BP: D(18,17,19); MV may open with a sign.
use Rattle.std.specs.Prelude.{ℕ, cond, List, drop, Option, Some, None}
use Rattle.text.specs.Ascii.{ascii}
use Rattle.text.specs.Word.{same, starts_with}
use Rattle.amount.specs.declared.Price.{Price}
use Rattle.amount.specs.declared.Price.TheVariants.{Pending, NotApplicable, Percent, Money, Yield, BasisPoints, Malformed}
use Rattle.amount.specs.Decimal.{tagged, value_of}
use Rattle.amount.specs.declared.Decimal.{Decimal}
use Rattle.amount.specs.Signed.{signed_of}

-- a price in money is the signed amount behind MV:
abbrev pub money_of : Option Decimal → Price
money_of (Some d) = Money d
money_of None = Malformed

unfoldable pub price_of : List ℕ → Price
price_of s =
    cond (same (ascii "PNDG") s) Pending
    (cond (same (ascii "NOAP") s) NotApplicable
    (cond (tagged (ascii "PC:") 11 10 19 s) (Percent (value_of (drop 3 s)))
    (cond (starts_with (ascii "MV:") s) (money_of (signed_of 13 (drop 3 s)))
    (cond (tagged (ascii "YLD:") 11 10 12 s) (Yield (value_of (drop 4 s)))
    (cond (tagged (ascii "BP:") 18 17 19 s) (BasisPoints (value_of (drop 3 s)))
    Malformed)))))

-- the kinds of price, numbered from 2 on as the cell form lists them; 0 is malformed
abbrev pub price_kind : Price → ℕ
price_kind Pending = 2
price_kind NotApplicable = 3
price_kind (Percent d) = 4
price_kind (Money d) = 5
price_kind (Yield d) = 6
price_kind (BasisPoints d) = 7
price_kind Malformed = 0
