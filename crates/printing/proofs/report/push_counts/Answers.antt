use Rattle.std.proofs.Common.{rules, ◌≡◌, arith, length-append}
use Rattle.std.proofs.lemmas.Slice.Zip.{zip_turn, zip_end}
use Rattle.std.specs.Iterator.Adapters.{zip_first, zip_second}
use Rattle.std.specs.Slice.Iter.{iter_rest}
use Rattle.printing.proofs.ReportLaws.{counts_start, counts_on, counts_all, counts_short}
use Rattle.printing.proofs.report.push_counts.Goals as goal

pub loop-code-init : goal.loop-code-init
loop-code-init g c = counts_start

pub loop-code-preserved : goal.loop-code-preserved
loop-code-preserved g c =
    let first : iter_rest (zip_first c.into_iter-code-iterator.result) ≡ c.args.codes.now = search rules in
    let second : iter_rest (zip_second c.into_iter-code-iterator.result) ≡ c.args.counts.now = search rules in
    let here = zip_turn c.args.codes.now c.args.counts.now c.loop-code.yielded c.into_iter-code-iterator.result c.loop-code.code-iterator c.next.new.self c.next.result first second c.loop-code.yielded_by (c.in-Some.field-0-0, c.in-Some.field-0-1) c.in-Some.is c.next.ensures.steps in
    rw length-append (counts_on c.loop-code.invariant c.requires here.0 (rw (here.2 0, here.3 0) at c.push_counted.ensures))

pub returns : goal.returns
returns g c =
    let first : iter_rest (zip_first c.into_iter-code-iterator.result) ≡ c.args.codes.now = search rules in
    let second : iter_rest (zip_second c.into_iter-code-iterator.result) ≡ c.args.counts.now = search rules in
    let all = zip_end c.args.codes.now c.args.counts.now c.loop-code.yielded c.into_iter-code-iterator.result c.loop-code.code-iterator c.next.new.self c.next.result first second c.loop-code.yielded_by c.in-None.is c.next.ensures.steps in
    record {
      keeps = counts_all c.loop-code.invariant c.requires (omega (arith, all, c.requires));
      few = counts_short c.args.codes.now c.args.counts.now (λ i. omega (arith, c.type_inv.codes i)) (λ i. omega (arith, c.type_inv.counts i));
    }
