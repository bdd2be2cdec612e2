-- Each public function's contract determines its answer, for every answer that lists can give to what is asked of a line.
use mathlib.Core.Path.{◌≡◌}
use mathlib.Core.Bool.{false}
use mathlib.Core.List.{List, []}
use Prim.Native.Nat.{ℕ}
use contract.Lifetimes.{Lfts}
use denote.Triple.Clauses.{AtExit}
use borrow.Fn.Kinds.{Dens, res_t, ended_of}
use Rattle.text.proofs.Determined.{same_both}
use Rattle.cells.specs.Cells.{cell}
use Rattle.facts.specs.Call.{call}
use Rattle.facts.specs.Asked.{lei_fit}
use Rattle.facts.specs.Facts.{asked_in}
use Rattle.facts.proofs.Registers.{stands_there}
use Rattle.rules.proofs.lines.when_new.Kinds as when_new_kinds
use Rattle.rules.proofs.lines.when_new.Reads as when_new_reads
use Rattle.rules.proofs.lines.unless_new.Kinds as unless_new_kinds
use Rattle.rules.proofs.lines.unless_new.Reads as unless_new_reads

-- the contracts speak of every register in which the pair stands as told, and there is one
pub when_new_determined :
    (κs : Lfts 3) (a : Dens κs when_new_kinds.ps) (x y : (res_t when_new_kinds.r κs).Denot) (s t : AtExit (ended_of 3 when_new_kinds.ps when_new_kinds.r) κs) (lei cty ccy ven ins : List ℕ)
    → a.1.0 ≡ asked_in (call a.0.now.split.now.line.now lei cty ccy ven ins [] a.1.1.1.0.day a.1.1.1.0.micro a.1.1.1.1.0) → when_new_reads.Post κs a x s → when_new_reads.Post κs a y t → x ≡ y
when_new_determined κs a x y s t lei cty ccy ven ins asked one other =
    let so = stands_there a.1.1.0 a.0.now.split.now.line.now in
    same_both (one lei cty ccy ven ins _ asked so) (other lei cty ccy ven ins _ asked so)

pub unless_new_determined :
    (κs : Lfts 2) (a : Dens κs unless_new_kinds.ps) (x y : (res_t unless_new_kinds.r κs).Denot) (s t : AtExit (ended_of 2 unless_new_kinds.ps unless_new_kinds.r) κs) (lei : List ℕ) (day : ℕ)
    → a.1.0 ≡ lei_fit lei (cell a.0.now.line.now 6) day → unless_new_reads.Post κs a x s → unless_new_reads.Post κs a y t → x ≡ y
unless_new_determined κs a x y s t lei day fit one other =
    let so = stands_there a.1.1.0 a.0.now.line.now in
    same_both (one lei [] [] [] [] _ day 0 false fit so) (other lei [] [] [] [] _ day 0 false fit so)
