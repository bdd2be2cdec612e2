use Rattle.std.proofs.Common.{◌≡◌, take, false}
use Rattle.std.specs.List.{list_any}
use Rattle.text.specs.Shape.{shape}
use Rattle.cfi.proofs.matches_one.Given as goal

abbrev pub invariant-loop-pattern : goal.invariant-loop-pattern
invariant-loop-pattern l = list_any (λ pattern. shape pattern l.cfi) (take l.pattern-index l.patterns) ≡ false
