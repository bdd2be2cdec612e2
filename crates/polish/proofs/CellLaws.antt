-- What of the three can stand together: one that is no Polish number gives 3307 alone, and a NIP never 3309.
use Prim.Native.Nat.{ℕ}
use mathlib.Core.Path.{◌≡◌}
use mathlib.Core.Bool.{Bool, true, false, ◌&&◌}
use mathlib.Core.List.{List}
use native.Mathlib.Omega.{arith}
use borrow.Author.Tests.{not-true, leb-true, lt-leb}
use lib.Dec.{leb}
use lib.ListN.{length}
use Rattle.text.specs.Class.{all_of}
use Rattle.text.specs.declared.classes.Class.TheVariants.{Digit}
use Rattle.text.proofs.Bools.{and_left, and_right, or_left, or_right}
use Rattle.polish.specs.Numbers.{is_pesel, is_nip}
use Rattle.polish.specs.Cells.{neither, wrong_digit, other_day}

pub form_alone : (n : List ℕ) (dated : Bool) (day : ℕ) → neither n ≡ true → (wrong_digit n ≡ false) × (other_day n dated day ≡ false)
unfolding neither wrong_digit other_day
form_alone n dated day e =
    let pesel : is_pesel n ≡ false = or_left (is_pesel n) (is_nip n) (not-true _ e) in
    let nip : is_nip n ≡ false = or_right (is_pesel n) (is_nip n) (not-true _ e) in
    (rw (pesel, nip), rw pesel)

-- 10 digits are not 11
pub nip_unborn : (n : List ℕ) (dated : Bool) (day : ℕ) → is_nip n ≡ true → other_day n dated day ≡ false
unfolding other_day
nip_unborn n dated day e =
    let long : leb (length n) 10 ≡ true = and_right (leb 10 (length n)) (leb (length n) 10) (and_left (leb 10 (length n) && leb (length n) 10) (all_of Digit n) e) in
    let short : leb 11 (length n) ≡ false = lt-leb 11 (length n) (omega (arith, leb-true (length n) 10 long)) in
    rw short
