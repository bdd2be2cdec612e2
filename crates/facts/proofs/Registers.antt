-- However the pair of a line may stand, there is a register in which it stands so. What a contract says of every such register it therefore says
-- of one at least.
use mathlib.Core.Path.{◌≡◌, refl}
use mathlib.Core.List.{List, [], ◌∷◌, ◌++◌}
use Prim.Native.Nat.{ℕ}
use native.Mathlib.Omega.{arith}
use lib.Dec.{lit≤}
use lib.ListN.{length, length-append}
use lib.Seq.{take_at, drop_at}
use Rattle.text.specs.Ascii.{ascii}
use Rattle.text.specs.Word.{starts_with}
use Rattle.cells.specs.Cells.{cell}
use Rattle.register.specs.Frame.{version, day_width, used, capacity, framed}
use Rattle.register.specs.Pair.{pair_bytes}
use Rattle.register.specs.Rows.{rows_in, look, state_byte, state_of, standing}
use Rattle.register.specs.declared.rows.Standing.{Standing}
use Rattle.register.specs.declared.rows.Standing.TheVariants.{Absent, Live, Cancelled}
use Rattle.register.proofs.Words.{same_refl}
use Rattle.register.proofs.FrameLaws.{Framed, is_framed}
use Rattle.register.proofs.PairLaws.{pair_length}
use Rattle.facts.specs.Rules.{pair_stands}

abbrev pair_of : List ℕ → List ℕ
pair_of line = pair_bytes (cell line 4) (cell line 2)

-- version 1, one row used: the line's pair, in that state
abbrev one_row : ℕ → List ℕ → List ℕ
one_row state line = ascii "TRN" ++ (1 ∷ 0 ∷ 1 ∷ 0 ∷ 0 ∷ 0 ∷ (pair_of line ++ (state ∷ [])))

stands_alone : (state : ℕ) (line : List ℕ) → state_of state ≡ pair_stands (one_row state line) line
unfolding version day_width used capacity starts_with rows_in look standing pair_stands
stands_alone state line =
    let h : length (pair_of line) ≡ 73 = pair_length (cell line 4) (cell line 2) in
    let size : length (one_row state line) ≡ 83 = simp length-append (omega (arith, h)) in
    let f : Framed (one_row state line) = record { head = omega (arith, size); mark = refl; known = refl; fits = rw size (lit≤ tt) } in
    rw (is_framed f, take_at (pair_of line) (state ∷ []) 73 h, drop_at (pair_of line) (state ∷ []) 73 h, same_refl (pair_of line))

abbrev pub register_of : Standing → List ℕ → List ℕ
register_of Absent line = []
register_of Live line = one_row (state_byte Live) line
register_of Cancelled line = one_row (state_byte Cancelled) line

pub stands_there : (as-told : Standing) (line : List ℕ) → as-told ≡ pair_stands (register_of as-told line) line
unfolding pair_stands framed standing
stands_there Absent line = refl
stands_there Live line = stands_alone (state_byte Live) line
stands_there Cancelled line = stands_alone (state_byte Cancelled) line
