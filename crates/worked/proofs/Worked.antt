-- The worked examples, by computation.
use mathlib.Core.Path.{refl}
use Rattle.text.specs.Class.{all_of}
use Rattle.text.specs.Word.{starts_with, same}
use Rattle.text.specs.Shape.{suits, shape}
use Rattle.text.specs.Number.{digit_of, numeral, number_of, two_digits, four_digits}
use Rattle.calendar.specs.Day.{leap, month_length, is_day, five_years_before}
use Rattle.calendar.specs.Dates.{day_written, date_of}
use Rattle.ident.specs.Written.{value_of as value_of', digits_of as digits_of', written_digits, decimal}
use Rattle.ident.specs.Codes.{oddly, double_add_double}
use Rattle.amount.specs.Decimal.{point_at, whole, decimals, is_decimal, without_last_zeros, fewest_decimals, value_of, tagged}
use Rattle.amount.specs.Price.{price_of}
use Rattle.amount.specs.Quantity.{quantity_of}
use Rattle.facts.specs.Words.{too_old}
use Rattle.worked.specs.Examples.{Examples}

pub examples : Examples
unfolding value_of' digits_of' written_digits decimal all_of starts_with same suits shape digit_of numeral number_of two_digits four_digits leap month_length is_day five_years_before day_written date_of oddly double_add_double point_at whole decimals is_decimal without_last_zeros fewest_decimals value_of tagged price_of quantity_of too_old
examples =
    record {
      lei_98 = refl;
      lei_195 = refl;
      lei_A68 = refl;
      lei_97 = refl;
      isin_6 = refl;
      isin_5 = refl;
      leap_2000 = refl;
      leap_2100 = refl;
      john = refl;
      no_john = refl;
      five = refl;
      half = refl;
      yield = refl;
      no_yield = refl;
      in_time = refl;
      a_day_late = refl;
      in_time_2024 = refl;
      a_day_late_2024 = refl;
      in_time_leap = refl;
      a_day_late_leap = refl;
    }
