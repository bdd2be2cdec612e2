-- The afternoon: each call by computation, and the run that they make.
use Prim.Native.Nat.{ℕ}
use mathlib.Core.Path.{◌≡◌, refl, sym, ap}
use mathlib.Core.Bool.{false}
use mathlib.Core.List.{List, [], ◌∷◌}
use lib.Dec.{lit≤}
use lib.ListN.{replicate}
use Rattle.conditions.specs.Condition3.{Event, Run, start, next, convert}
use Rattle.conditions.specs.Afternoon.{on, cancels, reports, other, none, holding, dated, accepting, finding, refusing, leaves, answered, history, Afternoon}
use Rattle.conditions.proofs.Teeth.{fresh, empty}
use Rattle.text.specs.Class.{all_of}
use Rattle.text.specs.FirstFrom.{first_from}
use Rattle.text.specs.Number.{digit_of, numeral, number_of, two_digits, four_digits}
use Rattle.text.specs.Shape.{suits, shape}
use Rattle.text.specs.Word.{starts_with, same, among, one_of}
use Rattle.calendar.specs.Dates.{day_written}
use Rattle.calendar.specs.Day.{leap, month_length, is_day, five_years_before}
use Rattle.calendar.specs.Moments.{is_time, is_ending, micro_written, is_moment_cell, when_of, is_moment}
use Rattle.ident.specs.Party.{named, well_formed, identifier_of, party_with}
use Rattle.ident.specs.Written.{value_of, digits_of, written_digits, decimal}
use Rattle.amount.specs.Decimal.{point_at, whole, decimals, is_decimal, without_last_zeros, fewest_decimals, value_of as value_of_amount, tagged}
use Rattle.amount.specs.Price.{price_of}
use Rattle.amount.specs.Quantity.{quantity_of}
use Rattle.cells.specs.Cells.{cells_of, cell}
use Rattle.forms.specs.Findings.{status_of, form_finding, form_findings}
use Rattle.forms.specs.Forms.{holds, form_of}
use Rattle.lists.specs.Frame.{framed_as}
use Rattle.lists.specs.Rows.{chunks, rows_from, some}
use Rattle.register.specs.Frame.{version, day_width, used, capacity, framed, full, is_used}
use Rattle.register.specs.Pair.{filled, pair_bytes}
use Rattle.register.specs.Rows.{rows_in, own_from, look, first_row, standing}
use Rattle.register.specs.Written.{restated, appended, put, set_cancelled}
use Rattle.register.specs.Conversion.{undated, in_version2, conversion_answer, converted}
use Rattle.cfi.specs.Rules.{words, rules, any, matches, broken, violated}
use Rattle.cfi.specs.Table.{marked}
use Rattle.facts.specs.Rules.{good_cells, pair_stands, holdings, flags, polish_flags, all_flags}
use Rattle.baskets.specs.Items.{in_front, all_right}
use Rattle.baskets.specs.Underlying.{kind_named}
use Rattle.facts.specs.Words.{moment_of, day_of, lei_good_unlapsed, lei_good, lei_wrong, country_wrong, party_lei_good, party_lei_wrong, party_country_wrong, party_mic_wrong, party_shape_wrong, birth_wrong, is_late, is_past, is_entity, currency_wrong, quantity_currency_wrong, second_currency, isin_wrong, not_before, too_old, held_word, held_quantity, held_price, held_swap}
use Rattle.verdict.specs.Codes.{rule_codes, form_codes, polish_codes, codes, code_count}
use Rattle.verdict.specs.Verdict.{word_of, pick, verdict_of, refused_by}
use Rattle.judge.specs.Outcome.{Outcome, written, outcome}
use Rattle.judge.specs.Refusal.{clean, no_room, refusal}

step :
    {c : ℕ} {earlier : List Event} (day : ℕ) (line register : List ℕ) (o : Outcome) → Run c earlier register → outcome (on day line register) code_count ≡ o
    → Run c (answered day line o.verdict ∷ earlier) o.register
step day line register o run e =
    next (on day line register) {before = replicate code_count 0} run
    (record { says = ap (λ (x : Outcome). x.verdict) (sym e); lists = refl; keeps = ap (λ (x : Outcome). x.register) (sym e) })

-- each call
pub afternoon : Afternoon
unfolding all_of first_from digit_of numeral number_of two_digits four_digits suits shape starts_with same among one_of day_written leap month_length is_day five_years_before is_time is_ending micro_written is_moment_cell when_of is_moment named well_formed identifier_of party_with value_of digits_of written_digits decimal point_at whole decimals is_decimal without_last_zeros fewest_decimals value_of_amount tagged price_of quantity_of cells_of cell status_of form_finding form_findings holds form_of framed_as chunks rows_from some version day_width used capacity framed full is_used filled pair_bytes rows_in own_from look first_row standing restated appended put set_cancelled undated in_version2 conversion_answer converted words rules any matches broken violated marked good_cells pair_stands holdings flags polish_flags moment_of day_of lei_good_unlapsed lei_good lei_wrong country_wrong party_lei_good party_lei_wrong party_country_wrong party_mic_wrong party_shape_wrong birth_wrong is_late is_past is_entity currency_wrong quantity_currency_wrong second_currency isin_wrong not_before too_old held_word held_quantity held_price held_swap in_front all_right kind_named rule_codes form_codes polish_codes codes word_of pick verdict_of refused_by written outcome all_flags clean no_room refusal
afternoon =
    record {
      too_early = refl;
      reported = refl;
      twice = refl;
      cancelled = refl;
      twice_cancelled = refl;
      again = refl;
      no_room_left = refl;
      converted = record { says = refl; leaves = refl };
      next_day = refl;
    }

-- one after the other, from an empty register
pub afternoon_run : Run 1 history (dated 2 20240507)
unfolding fresh version day_width capacity filled pair_bytes
afternoon_run =
    step 20240507 cancels (dated 1 0) (leaves accepting [] (dated 2 20240507))
    (convert
    (step 20240506 other (holding 1) (leaves (refusing 11) [] (holding 1))
    (step 20240506 reports (holding 2) (leaves accepting [] (holding 1))
    (step 20240506 cancels (holding 2) (leaves (finding 4) (25 ∷ []) (holding 2))
    (step 20240506 cancels (holding 1) (leaves accepting [] (holding 2))
    (step 20240506 reports (holding 1) (leaves (finding 1) (23 ∷ []) (holding 1))
    (step 20240506 reports none (leaves accepting [] (holding 1))
    (step 20240506 cancels none (leaves (finding 2) (24 ∷ []) none) (start (empty false 1 (lit≤ tt))) afternoon.too_early)
    afternoon.reported)
    afternoon.twice)
    afternoon.cancelled)
    afternoon.twice_cancelled)
    afternoon.again)
    afternoon.no_room_left)
    afternoon.converted)
    afternoon.next_day
