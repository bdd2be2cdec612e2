use Rattle.std.proofs.Common.{sym, ◌∙◌, arith}
use Rattle.std.specs.Slice.Iter.{chunks_exact_rest}
use Rattle.text.proofs.WordLaws.{other_width, of_width, among_word, among_short}
use Rattle.text.proofs.words.one_of.Goals as goal

pub returns-then-s-width : goal.returns-then-s-width
returns-then-s-width c = other_width c.args.width c.args.words.now c.args.s.now c.if-s-width.true

pub loop-word-init : goal.loop-word-init
loop-word-init c =
    let e = c.chunks_exact-word-items.ensures in
    let i = c.into_iter-word-iterator.ensures.into_iter_gives in
    record { can = rw i (omega (arith, e.size)); finite = tt; width_is = rw i (e.size ∙ c.max.ensures); left = rw (i, e.rest) (of_width c.args.words.now c.args.s.now c.if-s-width.false) }

pub returns-then-starts_with : goal.returns-then-starts_with
returns-then-starts_with c =
    let h = c.in-Some.ensures in
    sym (c.loop-word.invariant.left ∙ rw (h.steps.1.0, among_word c.args.s.now c.in-Some.word.now (chunks_exact_rest c.next.new.self) (omega arith), sym c.starts_with.ensures ∙ c.if-starts_with.true))

pub loop-word-preserved : goal.loop-word-preserved
loop-word-preserved c =
    let h = c.in-Some.ensures in
    record {
      can = omega arith;
      finite = tt;
      width_is = h.steps.0 ∙ c.loop-word.invariant.width_is;
      left =
          c.loop-word.invariant.left
          ∙ rw (h.steps.1.0, among_word c.args.s.now c.in-Some.word.now (chunks_exact_rest c.next.new.self) (omega arith), sym c.starts_with.ensures ∙ c.if-starts_with.false);
    }

pub returns : goal.returns
returns c =
    let h = c.in-None.ensures in
    sym (c.loop-word.invariant.left ∙ among_short c.args.s.now (chunks_exact_rest c.loop-word.word-iterator) (omega arith))
