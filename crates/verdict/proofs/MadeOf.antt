-- A verdict made of its parts, as the code takes them.
use mathlib.Core.Path.{◌≡◌, ◌∙◌, sym}
use mathlib.Core.Bool.{Bool}
use mathlib.Core.List.{List, [], ◌∷◌}
use Prim.Native.Nat.{ℕ, ◌-◌}
use native.Mathlib.Omega.{arith}
use lib.ListN.{length, take, drop, length-drop}
use lib.Seq.{drop-drop, take_all}
use Rattle.text.proofs.Lists.{part_to_end}
use Rattle.verdict.specs.declared.Verdict.{Verdict}
use Rattle.verdict.specs.Codes.{code_count}
use Rattle.verdict.specs.Verdict.{word_of, codes_found, verdict_of}
use Rattle.verdict.specs.Counted.{bits_set}
use Rattle.verdict.proofs.Promises.{bits_are_listed, ours}

-- the last word has what is left of the flags
last_part : (flags : List Bool) → length flags ≡ code_count → take 13 (drop 128 flags) ≡ take 64 (drop 64 (drop 64 flags))
last_part flags all = let e : 13 ≡ length flags - 128 = omega arith in rw e (part_to_end 128 flags ∙ rw (drop-drop 64 64 flags) (sym (take_all 64 (drop 128 flags) (rw length-drop (omega arith)))))

module _ (flags : List Bool) (all : length flags ≡ code_count) {first second third count : ℕ} (one : first ≡ word_of (take 64 flags))
    (two : second ≡ word_of (take 64 (drop 64 flags))) (three : third ≡ word_of (take 13 (drop 128 flags)))
    (summed : count ≡ bits_set (first ∷ second ∷ third ∷ [])) where
  third_word : third ≡ word_of (take 64 (drop 64 (drop 64 flags)))
  third_word = three ∙ rw (last_part flags all)

  count_found : count ≡ length (codes_found flags)
  count_found = summed ∙ rw (one, two, third_word) (omega (arith, bits_are_listed (ours flags all) 3 (omega arith)))

  pub verdict_made : ◌≡◌ {A = Verdict} (record { answer = 0; count = count; words = first ∷ second ∷ third ∷ [] }) (verdict_of flags)
  unfolding verdict_of
  verdict_made = λ i. record { answer = 0; count = count_found i; words = one i ∷ two i ∷ third_word i ∷ [] }
