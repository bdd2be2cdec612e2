-- The paper's example, by computation: what the program writes for `h`, a cancellation of a pair that nobody reported, and `x`; and the
-- summary of these.
use mathlib.Core.Path.{◌≡◌, refl}
use mathlib.Core.List.{List, ◌++◌}
use Prim.Native.Nat.{ℕ}
use lib.ListN.{replicate}
use Rattle.text.specs.Ascii.{ascii}
use Rattle.text.specs.Class.{all_of}
use Rattle.text.specs.FirstFrom.{first_from}
use Rattle.text.specs.Number.{digit_of}
use Rattle.text.specs.Shape.{suits, shape}
use Rattle.text.specs.Word.{starts_with, same}
use Rattle.calendar.specs.Day.{month_length, is_day}
use Rattle.calendar.specs.Moments.{is_moment}
use Rattle.ident.specs.Written.{value_of, digits_of, written_digits, decimal}
use Rattle.cells.specs.Cells.{cells_of, cell}
use Rattle.forms.specs.Findings.{status_of, form_finding, form_findings}
use Rattle.forms.specs.Forms.{holds, form_of}
use Rattle.lists.specs.Frame.{framed_as}
use Rattle.lists.specs.Rows.{chunks, rows_from, some}
use Rattle.register.specs.Frame.{version, day_width, used, capacity, framed, full}
use Rattle.register.specs.Pair.{pair_bytes}
use Rattle.register.specs.Rows.{rows_in, own_from, look, first_row, standing}
use Rattle.facts.specs.Rules.{good_cells, pair_stands, holdings, flags, polish_flags, all_flags}
use Rattle.facts.specs.Words.{lei_good_unlapsed, lei_good, lei_wrong}
use Rattle.verdict.specs.Codes.{rule_codes, form_codes, polish_codes, codes}
use Rattle.verdict.specs.Verdict.{word_of, pick, verdict_of, refused_by}
use Rattle.verdict.specs.Counted.{times}
use Rattle.verdict.specs.Bits.{bits_of, flags_in}
use Rattle.summary.specs.Counting.{up, stuck, raised, any_stuck, added, stuck_in, fresh, entered_of}
use Rattle.summary.specs.Judged.{entity_in, names, kind_of, of_no_entity, line_of}
use Rattle.summary.specs.Noting.{reach_of, stops_at, first_stop, note_of}
use Rattle.table.specs.Noted.{noted}
use Rattle.judge.specs.Outcome.{outcome}
use Rattle.judge.specs.Refusal.{clean, no_room, refusal}
use Rattle.checker.specs.Bare.{bare}
use Rattle.checker.specs.Lines.{unended, lines_from}
use Rattle.printing.specs.Printed.{digits_of as digits_of_printed, spaced, printed}
use Rattle.checker.specs.Program.{judged, answers, program_writes, notes, table_after}
use Rattle.printing.specs.Report.{count_text, count_texts, record_text, firm_text, firm_texts, summary_text}

-- E = 00000000000000000098
abbrev example : List ℕ
example =
    ascii "h\nCXL|R1||00000000000000000098||00000000000000000098" ++ (replicate 59 124 ++ ascii "\nx\n")

pub papers_example : program_writes example ≡ ascii "2 0 2 24 60\n3 10 0\n"
unfolding all_of first_from digit_of suits shape starts_with same month_length is_day is_moment value_of digits_of written_digits decimal cells_of cell status_of form_finding form_findings holds form_of framed_as chunks rows_from some version day_width used capacity framed full pair_bytes rows_in own_from look first_row standing good_cells pair_stands holdings flags polish_flags lei_good_unlapsed lei_good lei_wrong rule_codes form_codes polish_codes codes word_of pick verdict_of refused_by outcome all_flags clean no_room refusal bare unended lines_from digits_of_printed spaced printed judged answers program_writes
papers_example = refl

pub papers_summary : summary_text (table_after example) ≡ ascii "summary\n00000000000000000098 0 0 1 0 0 24:1 60:1\ncommon 0 0 0 0 1\n"
unfolding all_of first_from digit_of suits shape starts_with same month_length is_day is_moment value_of digits_of written_digits decimal cells_of cell status_of form_finding form_findings holds form_of framed_as chunks rows_from some version day_width used capacity framed full pair_bytes rows_in own_from look first_row standing good_cells pair_stands holdings flags polish_flags lei_good_unlapsed lei_good lei_wrong rule_codes form_codes polish_codes codes word_of pick verdict_of refused_by outcome all_flags clean no_room refusal bare unended lines_from judged flags_in bits_of times up stuck raised any_stuck added stuck_in fresh entered_of entity_in names kind_of of_no_entity line_of reach_of stops_at first_stop note_of noted notes table_after digits_of_printed spaced count_text count_texts record_text firm_text firm_texts summary_text
papers_summary = refl
