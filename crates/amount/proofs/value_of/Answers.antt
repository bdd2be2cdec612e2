use mathlib.Core.Path.{◌≡◌, ◌∙◌}
use mathlib.Core.List.{List, ◌++◌}
use Prim.Native.Nat.{ℕ}
use native.Mathlib.Omega.{arith}
use Rattle.text.specs.Number.{number_of}
use Rattle.amount.specs.Decimal.{whole, fewest_decimals}
use Rattle.amount.proofs.DecimalLaws.{point_room, whole_is, fewest_are}
use Rattle.amount.proofs.SignLaws.{number_fits, places_fit, value_is}
use Rattle.amount.proofs.value_of.Goals as goal
use Rattle.amount.proofs.value_of.Goals.{After-joined_number}

-- the text, and what the calls tell of its decimals and of its number
abbrev S : After-joined_number → List ℕ
S c = c.args.s.now

decimals : (c : After-joined_number) → c.without_last_zeros-fewest.result.now ≡ fewest_decimals (S c)
decimals c = fewest_are (S c) c.point_at-point.ensures c.without_last_zeros-fewest.ensures c.rest-behind.ensures

number : (c : After-joined_number) → c.joined_number.result ≡ number_of (whole (S c) ++ fewest_decimals (S c))
number c = c.joined_number.ensures ∙ (λ i. number_of (whole_is (S c) c.point_at-point.ensures c.head-before.ensures i ++ decimals c i))

pub overflow_add-point : goal.overflow_add-point
overflow_add-point c = omega (arith, point_room c.args.s.now c.point_at-point.ensures)

pub overflow_cast-result : goal.overflow_cast-result
overflow_cast-result c = number_fits (S c) (number c)

pub overflow_cast-result-2 : goal.overflow_cast-result-2
overflow_cast-result-2 c = places_fit (S c) (decimals c) c.requires

pub returns : goal.returns
returns c = value_is (S c) (number c) (decimals c)
