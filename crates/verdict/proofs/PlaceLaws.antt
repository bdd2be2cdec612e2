-- Groups of flags put in place, one behind the other.
use mathlib.Core.Path.{◌≡◌, ◌∙◌, sym, refl, ap}
use mathlib.Core.Bool.{Bool, false}
use mathlib.Core.List.{List, [], ◌++◌, append_assoc}
use Prim.Native.Nat.{ℕ, zero, suc, ◌+◌, ◌-◌, ◌≤◌, ◌<◌}
use native.Mathlib.Omega.{arith}
use borrow.Author.Tests.{le-leb, lt-leb}
use borrow.Rule.Slice.PartMut.{put_mid}
use lib.ListN.{length, take, drop, replicate, length-append, length-drop, take-append-drop}
use lib.Seq.{length-take-le, drop-drop, take_at, drop_at}
use Rattle.verdict.specs.Codes.{code_count}
use Rattle.verdict.specs.Findings.{put}

pub put_past : (flags : List Bool) (start : ℕ) (group : List Bool) → code_count < start + length group → flags ≡ put flags start group
unfolding put
put_past flags start group h = rw (lt-leb (start + length group) code_count h)

-- what stands before the group and behind it stays
pub put_amid : (flags : List Bool) (start : ℕ) (group : List Bool) {n : ℕ} → length group ≡ n → start + n ≤ code_count
    → put flags start group ≡ take start flags ++ (group ++ drop (start + n) flags)
unfolding put
put_amid flags start group {n} e h = rw (e, le-leb _ code_count h) (append_assoc (take start flags) group (drop (start + n) flags))

-- what a write to the flags from `start` up to the group's end leaves
pub put_mid_is : (flags group : List Bool) (start k : ℕ) → k ≡ length group → start + length group ≤ code_count → put_mid start k flags group ≡ put flags start group
put_mid_is flags group start k e h = rw (e, put_amid flags start group refl h) (λ i. take start flags ++ (group ++ drop-drop (length group) start flags i))

-- flags that are not set, less some
fewer_unset : (k n : ℕ) → drop k (replicate n false) ≡ replicate (n - k) false
fewer_unset zero n = let all : n ≡ n - 0 = omega arith in ap (λ m. replicate m false) all
fewer_unset (suc k) zero = let none : 0 ≡ 0 - suc k = omega arith in ap (λ m. replicate m false) none
fewer_unset (suc k) (suc n) = let one_less : n - k ≡ suc n - suc k = omega arith in fewer_unset k n ∙ ap (λ m. replicate m false) one_less

-- the first n flags are `done`, and behind them none is set
pub record Filled (n : ℕ) (done flags : List Bool) : Type 0 where
  pub long : length flags ≡ code_count
  pub front : take n flags ≡ done
  pub behind : drop n flags ≡ replicate (code_count - n) false

pub filled_none : Filled 0 [] (replicate code_count false)
filled_none = record { long = refl; front = refl; behind = refl }

-- a group put behind those that are done
pub filled_more : {n : ℕ} {done flags placed : List Bool} → Filled n done flags → (group : List Bool) (k : ℕ) → length group ≡ k → n + k ≤ code_count
    → placed ≡ put flags n group → Filled (n + k) (done ++ group) placed
filled_more {n} {done} {flags} {placed} filled group k e h p =
    let q : placed ≡ (done ++ group) ++ drop (n + k) flags =
    p ∙ put_amid flags n group e h ∙ sym (append_assoc (take n flags) group (drop (n + k) flags)) ∙ (λ i. (filled.front i ++ group) ++ drop (n + k) flags) in
    let count : length (done ++ group) ≡ n + k =
    length-append done group ∙ (λ i. (ap length (sym filled.front) ∙ length-take-le n flags (omega (arith, filled.long))) i + e i) in
    let left : code_count - n - k ≡ code_count - (n + k) = omega arith in
    record {
      long = ap length q ∙ simp (length-append, length-drop) (omega (arith, count, length-append done group, filled.long));
      front = ap (take (n + k)) q ∙ take_at (done ++ group) (drop (n + k) flags) (n + k) count;
      behind =
          ap (drop (n + k)) q
          ∙ drop_at (done ++ group) (drop (n + k) flags) (n + k) count
          ∙ sym (drop-drop k n flags)
          ∙ ap (drop k) filled.behind
          ∙ fewer_unset k (code_count - n)
          ∙ ap (λ m. replicate m false) left;
    }

pub filled_all : {n : ℕ} {done flags : List Bool} → Filled n done flags → flags ≡ done ++ replicate (code_count - n) false
filled_all {n} {done} {flags} filled = sym (take-append-drop n flags) ∙ (λ i. filled.front i ++ filled.behind i)
