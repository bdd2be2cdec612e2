-- The examples that the paper marks to be proved, in its order, and behind them those of five calendar years.
use Rattle.std.specs.Prelude.{◌≡◌, Some, None, true, false, pos}
use Rattle.text.specs.Ascii.{ascii}
use Rattle.calendar.specs.Dates.{date_of}
use Rattle.ident.specs.Codes.{lei_right, isin_right}
use Rattle.ident.specs.Person.{concat_shaped}
use Rattle.amount.specs.Price.{price_of}
use Rattle.amount.specs.declared.Price.TheVariants.{Yield, Malformed as NoPrice}
use Rattle.amount.specs.Quantity.{quantity_of}
use Rattle.amount.specs.declared.Quantity.TheVariants.{Units, Malformed as NoQuantity}
use Rattle.facts.specs.Words.{too_old}

pub record Examples : Type 0 where
  -- LEI check: three right, one wrong
  pub lei_98 : lei_right (ascii "00000000000000000098") ≡ true
  pub lei_195 : lei_right (ascii "00000000000000000195") ≡ true
  pub lei_A68 : lei_right (ascii "00000000000000000A68") ≡ true
  pub lei_97 : lei_right (ascii "00000000000000000097") ≡ false
  -- ISIN: one right, one wrong
  pub isin_6 : isin_right (ascii "AA0000000006") ≡ true
  pub isin_5 : isin_right (ascii "AA0000000005") ≡ false
  -- days: one real, one not
  pub leap_2000 : date_of (ascii "2000-02-29") ≡ Some 20000229
  pub leap_2100 : date_of (ascii "2100-02-29") ≡ None
  -- persons: one shaped, one not
  pub john : concat_shaped (ascii "DE19800101JOHN#SMITH") ≡ true
  pub no_john : concat_shaped (ascii "DE19800101#OHN#SMITH") ≡ false
  -- UNT: `5.` good, `.5` not
  pub five : quantity_of (ascii "UNT:5.") ≡ Units (record { mantissa = pos 5; places = 0 })
  pub half : quantity_of (ascii "UNT:.5") ≡ NoQuantity
  -- YLD: 1234567890.1 good, 12345678901.1 not
  pub yield : price_of (ascii "YLD:1234567890.1") ≡ Yield (record { mantissa = pos 12345678901; places = 1 })
  pub no_yield : price_of (ascii "YLD:12345678901.1") ≡ NoPrice
  -- S 20250322: T 2020-03-22 free of 281, 2020-03-21 not
  pub in_time : too_old 20200322 20250322 ≡ false
  pub a_day_late : too_old 20200321 20250322 ≡ true
  -- S 20240322: T 2019-03-22 free of 281, 2019-03-21 not, though two leap days lie between
  pub in_time_2024 : too_old 20190322 20240322 ≡ false
  pub a_day_late_2024 : too_old 20190321 20240322 ≡ true
  -- S 20240229: T 2019-02-28 free of 281, 2019-02-27 not
  pub in_time_leap : too_old 20190228 20240229 ≡ false
  pub a_day_late_leap : too_old 20190227 20240229 ≡ true
