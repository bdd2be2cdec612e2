-- What is counted of a line, by the verdict that it got.
use Rattle.std.specs.Prelude.{ℕ, Bool, cond, not, ◌&&◌, ◌||◌, List, eqb, length, replicate}
use Rattle.text.specs.Ascii.{ascii}
use Rattle.text.specs.Word.{same}
use Rattle.cells.specs.Cells.{cell}
use Rattle.verdict.specs.declared.Verdict.{Verdict}
use Rattle.verdict.specs.Verdict.{codes_found}
use Rattle.verdict.specs.Counted.{times}
use Rattle.verdict.specs.Bits.{flags_in}
use Rattle.summary.specs.declared.Kind.{Kind}
use Rattle.summary.specs.declared.Kind.TheVariants.{New, Cancelled, Found, Full, Refused}
use Rattle.summary.specs.declared.Line.{Line}

-- no entity: the line is the common record's
abbrev pub no_entity : List ℕ
no_entity = replicate 20 0

-- the entity is cell 4; where that has not 20 bytes there is none
unfoldable pub entity_in : List ℕ → List ℕ
entity_in line = cond (eqb (length (cell line 4)) 20) (cell line 4) no_entity

-- a code is among those whose bits are set
unfoldable pub names : List ℕ → ℕ → Bool
names words code = eqb (times code (codes_found (flags_in words))) 1

unfoldable pub kind_of : ℕ → ℕ → Bool → Kind
kind_of answer count is_new =
    cond (eqb answer 11) Full (cond (not (eqb answer 0)) Refused (cond (not (eqb count 0)) Found (cond is_new New Cancelled)))

-- refused by 1 to 10, or 1001 or 1004 found
unfoldable pub of_no_entity : ℕ → List ℕ → Bool
of_no_entity answer words = (not (eqb answer 0) && not (eqb answer 11)) || names words 1001 || names words 1004

unfoldable pub line_of : List ℕ → Verdict → Line
line_of line verdict =
    record {
      entity = cond (of_no_entity verdict.answer verdict.words) no_entity (entity_in line);
      kind = kind_of verdict.answer verdict.count (same (ascii "NEW") (cell line 1));
      words = verdict.words;
    }
