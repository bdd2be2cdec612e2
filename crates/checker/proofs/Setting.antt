-- The register that the program begins with: framed, no row used, room for 4.
use mathlib.Core.Path.{◌≡◌, refl}
use mathlib.Core.Bool.{true}
use Rattle.text.specs.Word.{starts_with}
use Rattle.register.specs.Frame.{version, day_width, framed, used, capacity}
use Rattle.checker.specs.Setting.{empty_register}

pub register_framed : framed empty_register ≡ true
unfolding framed version day_width used capacity starts_with
register_framed = refl

pub register_unused : used empty_register ≡ 0
unfolding used
register_unused = refl

pub register_room : capacity empty_register ≡ 4
unfolding version day_width capacity
register_room = refl
