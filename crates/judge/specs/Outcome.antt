-- What a call answers, lists and leaves in the register.
use Rattle.std.specs.Prelude.{ℕ, ◌≡◌, cond, List, [], eqb}
use Rattle.cells.specs.Cells.{cell}
use Rattle.register.specs.Pair.{pair_bytes}
use Rattle.register.specs.Rows.{first_row}
use Rattle.register.specs.Written.{set_live, set_cancelled}
use Rattle.facts.specs.Call.{Call}
use Rattle.facts.specs.Rules.{is_new, all_flags}
use Rattle.verdict.specs.declared.Verdict.{Verdict}
use Rattle.verdict.specs.Verdict.{codes_found, verdict_of, refused_by}
use Rattle.verdict.specs.Findings.{over}
use Rattle.judge.specs.Refusal.{clean, refusal}

pub record Outcome : Type 0 where
  pub verdict : Verdict
  pub listed : List ℕ
  pub register : List ℕ

-- the pair of a line: cells 4 and 2
abbrev pub pair_of : List ℕ → List ℕ
pair_of line = pair_bytes (cell line 4) (cell line 2)

-- the register once the line is accepted, in the version that it has: NEW sets its pair live, in place or as the next row, and CXL sets it cancelled;
-- both on the submission day
unfoldable pub written : Call → List ℕ
written c =
    cond (is_new c.line)
    (set_live c.register (first_row c.register (pair_of c.line)) (pair_of c.line) c.day)
    (set_cancelled c.register (first_row c.register (pair_of c.line)) c.day)

-- a refusal: its number, count 0 and zero words, and no byte changes
abbrev pub refused_outcome : Call → ℕ → Outcome
refused_outcome c number = record { verdict = refused_by number; listed = []; register = c.register }

-- the verdict and the findings of the line; with no finding the register is written, else it stays
abbrev pub judged_outcome : Call → Outcome
judged_outcome c =
    record {
      verdict = verdict_of (all_flags c);
      listed = codes_found (all_flags c);
      register = cond (clean c) (written c) c.register;
    }

unfoldable pub outcome : Call → ℕ → Outcome
outcome c room = cond (eqb (refusal c room) 0) (judged_outcome c) (refused_outcome c (refusal c room))

-- what a call leaves is that outcome: its answer, the findings buffer over what was there before, and the register
pub record Judged (o : Outcome) (before : List ℕ) (verdict : Verdict) (findings register : List ℕ) : Type 0 where
  pub says : verdict ≡ o.verdict
  pub lists : findings ≡ over o.listed before
  pub keeps : register ≡ o.register
