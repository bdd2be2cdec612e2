use Rattle.std.proofs.Common.{◌≡◌, max}
use Rattle.std.specs.Slice.Iter.{chunks_exact_rest, chunks_exact_size}
use Rattle.text.specs.Word.{among, one_of}
use Rattle.text.proofs.words.one_of.Given as goal

abbrev pub invariant-loop-word : goal.invariant-loop-word
invariant-loop-word l =
    record {
      can : (goal.iterator-loop-word).can_next l.word-iterator;
      finite : (goal.iterator-loop-word).is_finite l.word-iterator;
      width_is : chunks_exact_size l.word-iterator ≡ max l.width 1;
      left : one_of l.width l.words l.s ≡ among l.s 0 (chunks_exact_rest l.word-iterator);
    }
