use Rattle.std.proofs.Common.{ℕ, ◌≤◌, List, [], refl, sym, ap, ◌∙◌, arith}
use Rattle.std.proofs.lemmas.List.{get_or_default}
use borrow.Author.Tests.{ltb-true}
use lib.Dec.{ltb}
use Rattle.text.proofs.Bools.{by_test}
use Rattle.summary.specs.declared.Record.{Record}
use Rattle.summary.specs.Counting.{blank, entered_of}
use Rattle.summary.specs.Noting.{most_records, reach_of, free}
use Rattle.summary.proofs.SearchLaws.{reach_within, not_yet_start, not_yet_on, stops_here, stops_nowhere, noting_table, noting_common}
use Rattle.summary.proofs.noting.note.Goals as goal

reach_few : (room : ℕ) (e : List ℕ) → reach_of room e ≤ most_records
unfolding reach_of
reach_few room e = by_test (blank e) (λ t. rw t (omega arith)) (λ t. rw t (by_test (ltb room most_records) (λ s. rw s (omega (arith, ltb-true room most_records s))) (λ s. rw s (omega arith))))

-- what stands where there is no record
abbrev nothing : Record
nothing = record { entity = []; accepted = 0; cancelled = 0; found = 0; full = 0; refused = 0; codes = [] }

pub loop-i-init : goal.loop-i-init
loop-i-init c = (refl, omega (arith, c.reach-i-end.ensures, reach_within), omega (arith, c.reach-i-end.ensures, reach_few), not_yet_start)

pub returns-then-stops : goal.returns-then-stops
returns-then-stops c =
    let rs = c.args.records.now in
    let l = c.judged_line-l.result in
    let here = stops_here c.loop-i.invariant.3 c.loop-i.invariant.1 nothing c.loop-i-test.true (sym c.stops.ensures ∙ c.if-stops.true) in
    rw (sym c.judged_line-l.ensures, c.loop-i.invariant.0)
    (noting_table rs c.args.common.now l c.loop-i.i c.entered-tally.result (rw (c.loop-i.invariant.0, c.reach-i-end.ensures) at here) (omega (arith, c.reach-i-end.ensures))
    (rw c.loop-i.invariant.0 at c.entered-tally.ensures ∙ ap (λ (r : Record). entered_of r l) (get_or_default rs c.loop-i.i nothing free (omega (arith, c.reach-i-end.ensures, reach_within)))))

pub loop-i-preserved : goal.loop-i-preserved
loop-i-preserved c =
    (c.loop-i.invariant.0, c.loop-i.invariant.1, c.loop-i.invariant.2, not_yet_on c.loop-i.invariant.3 c.loop-i.invariant.1 nothing c.loop-i-test.true (sym c.stops.ensures ∙ c.if-stops.false))

pub returns : goal.returns
returns c =
    let nowhere = stops_nowhere c.loop-i.invariant.3 c.loop-i.invariant.1 (omega arith) in
    rw (sym c.judged_line-l.ensures, c.loop-i.invariant.0)
    (noting_common c.args.records.now c.args.common.now c.judged_line-l.result c.counted-tally.result (rw (c.loop-i.invariant.0, c.reach-i-end.ensures) at nowhere) c.counted-tally.ensures)
