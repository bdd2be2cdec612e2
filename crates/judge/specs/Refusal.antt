-- The eleven refusals, in order of checking.
use Rattle.std.specs.Prelude.{ℕ, Bool, not, ◌&&◌, List, [], ◌∷◌, ◌++◌, eqb, ltb, length}
use Rattle.text.specs.FirstFrom.{first_from}
use Rattle.calendar.specs.Moments.{is_moment}
use Rattle.cells.specs.Cells.{bars_of}
use Rattle.lists.specs.Frame.{framed}
use Rattle.lists.specs.declared.frame.Mark.TheVariants.{Lei, Cty, Ccy, Ven, Ins}
use Rattle.register.specs.Frame.{full}
use Rattle.facts.specs.Call.{Call}
use Rattle.facts.specs.Words.{is_absent}
use Rattle.facts.specs.Rules.{is_new, standing_of, all_flags}
use Rattle.verdict.specs.Codes.{entries_needed}
use Rattle.verdict.specs.Verdict.{codes_found}
use Rattle.register.specs.Frame as register

-- no finding
unfoldable pub clean : Call → Bool
clean c = eqb (length (codes_found (all_flags c))) 0

-- a row a refusal: what it is given for, where none before applies. `room` is how many entries the findings buffer has
abbrev pub early : Call → ℕ → List Bool
early c room =
    -- 1 to 5
    not (framed Lei c.lei)
    ∷ not (framed Cty c.cty)
    ∷ not (framed Ccy c.ccy)
    ∷ not (framed Ven c.ven)
    ∷ not (framed Ins c.ins)
    -- 6: the register
    ∷ not (register.framed c.register)
    -- 7: the submission moment
    ∷ not (is_moment c.day c.micro)
    -- 8: the findings buffer
    ∷ ltb room (entries_needed c.polish)
    -- 9: the line's length
    ∷ ltb 4096 (length c.line)
    ∷ []

-- 10: not exactly 65 cells
abbrev pub not_whole : Call → Bool
not_whole c = not (eqb (bars_of c.line) 64)

-- 11: no finding, NEW, pair not in the register, c rows used
unfoldable pub no_room : Call → Bool
no_room c = clean c && (is_new c.line && (is_absent (standing_of c) && full c.register))

-- the eleven tests, in order of checking
abbrev pub tests : Call → ℕ → List Bool
tests c room = early c room ++ (not_whole c ∷ no_room c ∷ [])

unfoldable pub refusal : Call → ℕ → ℕ
refusal c room = first_from 1 (tests c room)
