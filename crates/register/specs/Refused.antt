-- Whether a register is converted: how many rows, or why not.
use Rattle.std.specs.Prelude.{ℕ, cond, not, ◌&&◌, List, Result, Ok, Err, eqb, ltb, length}
use Rattle.register.specs.Frame.{place, version, used, framed}
use Rattle.register.specs.declared.conversion.Refusal.{Refusal}
use Rattle.register.specs.declared.conversion.Refusal.TheVariants.{Source, Target}

-- the rows used, or what refuses: first the source that is badly framed or not of version 1, then the target that has no room
unfoldable pub rows_to_convert : (source target : List ℕ) → Result ℕ Refusal
rows_to_convert source target =
    cond
    (not (framed source && eqb (version source) 1))
    (Err Source)
    (cond (ltb (length target) (place 4 (used source))) (Err Target) (Ok (used source)))
