-- What the functions tell of a value, an item and a part, for contracts within the crate: the values themselves are left behind, and whether all are right is kept.
use Rattle.std.specs.Prelude.{ℕ, Bool, false, ◌&&◌, List, leb, take}
use Rattle.baskets.specs.declared.items.Holds.{Holds}
use Rattle.baskets.specs.declared.items.Value.{Value}
use Rattle.baskets.specs.declared.items.Item.{Item as ItemRead}
use Rattle.baskets.specs.declared.items.Part.{Part as PartRead}
use Rattle.baskets.specs.Items.{Item, Part, value_size, value_right, all_right}

-- what is not well formed, as far as it was read
abbrev pub broken_off : Bool → ℕ → PartRead
broken_off right size = record { good = false; right = right; size = size }

abbrev pub between : (least most : ℕ) → ℕ → Bool
between least most b = leb least b && leb b most

abbrev pub value_told : Holds → List ℕ → Value
value_told holds s = record { size = value_size holds s; right = value_right holds (take (value_size holds s) s) }

abbrev pub item_told : Holds → Item → ItemRead
item_told holds i = record { good = i.good; index = i.index; right = value_right holds i.value; size = i.size }

abbrev pub part_told : Holds → Part → PartRead
part_told holds p = record { good = p.good; right = all_right holds p.values; size = p.size }
