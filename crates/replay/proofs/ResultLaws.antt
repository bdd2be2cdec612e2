-- What is written for a case is its outcome.
use mathlib.Core.Path.{◌≡◌, ◌∙◌, refl, ap}
use mathlib.Core.Bool.{Bool, true, false, cond}
use mathlib.Core.List.{List, [], ◌∷◌, ◌++◌, append_assoc}
use Prim.Native.Nat.{ℕ, ◌+◌, ◌*◌}
use native.Mathlib.Omega.{arith}
use lib.Dec.{eqb}
use lib.ListN.{length, length-append}
use lib.Seq.{take_all}
use Rattle.facts.specs.Call.{Call}
use Rattle.verdict.specs.declared.Verdict.{Verdict}
use Rattle.verdict.specs.Verdict.{verdict_of, refused_by}
use Rattle.judge.specs.Refusal.{refusal}
use Rattle.judge.specs.Outcome.{outcome, Judged, judged_outcome, refused_outcome}
use Rattle.buffer.specs.Kept.{Kept}
use Rattle.buffer.proofs.KeptLaws.{keep_front, keep_then}
use Rattle.replay.specs.Numbers.{each_in}
use Rattle.replay.specs.Results.{written, Resulted}
use Rattle.replay.proofs.NumberLaws.{each_length}

-- answer and count, words, findings, register: one behind the other
pub in_order : (v : Verdict) (findings register : List ℕ) {b c d n : ℕ} {s0 s2 s3 s4 s5 : List ℕ}
    → Kept s0 0 (each_in 2 (v.answer ∷ v.count ∷ [])) s2 b → Kept s2 b (each_in 8 v.words) s3 c
    → Kept s3 c (each_in 2 findings) s4 d → Kept s4 d register s5 n → Kept s0 0 (written v findings register) s5 n
unfolding written
in_order v findings register q r s t =
    let e : ((each_in 2 (v.answer ∷ v.count ∷ []) ++ each_in 8 v.words) ++ each_in 2 findings) ++ register ≡ written v findings register =
    simp append_assoc in
    rw e at (keep_then (keep_then (keep_then q r) s) t)

written_length : (v : Verdict) (findings register : List ℕ) → length v.words ≡ 3
    → length (written v findings register) ≡ 28 + 2 * length findings + length register
unfolding written
written_length v findings register three =
    simp (length-append, each_length) (omega arith)

three_words : (c : Call) (room : ℕ) → length (outcome c room).verdict.words ≡ 3
unfolding outcome verdict_of refused_by
three_words c room = either (eqb (refusal c room) 0)
  where
    either : (t : Bool) → length (cond t (judged_outcome c) (refused_outcome c (refusal c room))).verdict.words ≡ 3
    either true = refl
    either false = refl

pub resulted : (call : Call) {n : ℕ} {findings findings' register register' out out' : List ℕ} {v : Verdict}
    → length findings' ≡ length findings → length register' ≡ length register
    → Judged (outcome call (length findings)) findings v findings' register' → Kept out 0 (written v findings' register') out' n
    → Resulted (outcome call (length findings)) findings findings' register register' out out' n
resulted call {n} {findings} {findings'} {register} {register'} {out} {out'} {v} f r e p =
    let three : length v.words ≡ 3 = ap (λ (w : Verdict). length w.words) e.says ∙ three_words call (length findings) in
    record {
      writes = λ room.
          keep_front p
          ∙ take_all (length out) (written v findings' register') (omega (arith, written_length v findings' register' three))
          ∙ (λ i. written (e.says i) (e.lists i) (e.keeps i));
      lists = e.lists;
      keeps = e.keeps;
    }
