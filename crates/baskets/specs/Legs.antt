-- Legs: one or two baskets with a sign for SWAP, one basket without a sign for OTHR; and nothing behind them.
use Rattle.std.specs.Prelude.{ℕ, ◌+◌, Bool, cond, not, ◌&&◌, ◌||◌, List, ◌++◌, eqb, length, get_or, drop}
use Rattle.baskets.specs.declared.items.Holds.{Holds}
use Rattle.baskets.specs.declared.legs.Kind.{Kind}
use Rattle.baskets.specs.declared.legs.Kind.TheVariants.{Swap, Other, Malformed}
use Rattle.baskets.specs.Items.{Part, none, behind, stands, spaces_in, basket_in}

-- a sign, then a basket
unfoldable pub leg_in : Holds → List ℕ → Part
leg_in holds s = cond (stands "+" 0 s || stands "-" 0 s) (behind 1 (basket_in holds (drop 1 s))) none

-- the text ends with the part
abbrev pub is_all : List ℕ → Part → Bool
is_all s p = eqb p.size (length s)

-- two legs with different signs, the second at a place behind a semicolon and spaces
abbrev pub two_legs : List ℕ → Part → ℕ → Part → Part
two_legs s first at second =
    record {
      good = first.good && stands ";" first.size s && second.good && not (eqb (get_or s 0 0) (get_or s at 0)) && is_all s (behind at second);
      values = first.values ++ second.values;
      size = at + second.size;
    }

-- the place behind a byte and the spaces that follow it
abbrev pub past_spaces : ℕ → List ℕ → ℕ
past_spaces at s = at + 1 + spaces_in (drop (at + 1) s)

abbrev pub swap_from : Holds → List ℕ → Part → Part
swap_from holds s first = cond (is_all s first) first (two_legs s first (past_spaces first.size s) (leg_in holds (drop (past_spaces first.size s) s)))

abbrev pub all_of_it : List ℕ → Part → Part
all_of_it s p = record { good = p.good && is_all s p; values = p.values; size = p.size }

unfoldable pub legs_in : Kind → Holds → List ℕ → Part
legs_in Swap holds s = swap_from holds s (leg_in holds s)
legs_in Other holds s = all_of_it s (basket_in holds s)
legs_in Malformed holds s = none
