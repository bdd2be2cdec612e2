-- What the functions tell of a text by its width, for contracts within the crate.
use Rattle.std.specs.Prelude.{ℕ, cond, List, length, drop, Option, Some, None}
use Rattle.amount.specs.declared.Decimal.{Decimal}
use Rattle.amount.specs.Decimal.{is_decimal, value_of, tagged}

-- what a text of D(n, f, m) stands for, and what stands behind a kind's word
abbrev pub value_in : ℕ → ℕ → ℕ → List ℕ → Option Decimal
value_in n f m s = cond (is_decimal n f m s) (Some (value_of s)) None

abbrev pub value_behind : List ℕ → ℕ → ℕ → ℕ → List ℕ → Option Decimal
value_behind word n f m s = cond (tagged word n f m s) (Some (value_of (drop (length word) s))) None
