use Prim.Native.Nat.{◌-◌}
use Rattle.baskets.proofs.BasketLaws.{ItemsSoFar}
use Rattle.baskets.proofs.items.items_in.Given as goal

abbrev pub invariant-loop : goal.invariant-loop
invariant-loop l = ItemsSoFar l.holds l.s l.at l.least l.right (16 - l.counter)
