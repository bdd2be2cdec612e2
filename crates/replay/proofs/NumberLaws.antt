-- Numbers in bytes: written one behind the other, read entry by entry.
use mathlib.Core.Path.{◌≡◌, ◌∙◌, refl, sym, ap}
use mathlib.Core.List.{List, [], ◌∷◌, ◌++◌, append-nil, append_assoc}
use Prim.Native.Nat.{ℕ, zero, suc, ◌+◌, ◌*◌, ◌/◌, ◌%◌, ◌^◌, ◌<◌}
use native.Mathlib.Omega.{arith}
use lib.ListN.{length, get_or, drop, length-append}
use lib.Seq.{drop-drop}
use Rattle.std.specs.Int.{byte_at, bytes_low_first}
use Rattle.std.proofs.Math.Nat.{div-div-eq-div-mul, div-one, pow-suc}
use Rattle.text.specs.Number.{little_endian}
use Rattle.register.specs.Written.{little_bytes}
use Rattle.register.proofs.Words.{little_length}
use Rattle.buffer.specs.Kept.{Kept}
use Rattle.buffer.proofs.KeptLaws.{Joins}
use Rattle.replay.specs.Numbers.{each_in, entries_in}

byte_is : (i n : ℕ) → byte_at i n ≡ n / 256 ^ i % 256
byte_is zero n = rw div-one refl
byte_is (suc i) n = refl

one_up : (i n : ℕ) → n / 256 ^ suc i ≡ n / 256 ^ i / 256
one_up i n = rw pow-suc (sym (div-div-eq-div-mul n (256 ^ i) 256))

-- the library's bytes of a number, from byte i on
low_from : (i k n : ℕ) → bytes_low_first i k n ≡ little_bytes k (n / 256 ^ i)
low_from i zero n = refl
low_from i (suc k) n = rw (byte_is i n, low_from (suc i) k n, one_up i n) refl

pub low_bytes : (k n : ℕ) → bytes_low_first 0 k n ≡ little_bytes k n
low_bytes k n = low_from 0 k n ∙ ap (little_bytes k) (div-one n)

pub each_length : (width : ℕ) (vs : List ℕ) → length (each_in width vs) ≡ width * length vs
unfolding each_in
each_length width [] = omega arith
each_length width (v ∷ vs) = rw (length-append, little_length width v, each_length width vs) (omega arith)

pub each_join : (width : ℕ) → Joins (each_in width)
unfolding each_in
each_join width = record { none = refl; joined = go }
  where
    go : (xs ys : List ℕ) → each_in width (xs ++ ys) ≡ each_in width xs ++ each_in width ys
    go [] ys = refl
    go (x ∷ xs) ys = rw (go xs ys) (sym (append_assoc (little_bytes width x) (each_in width xs) (each_in width ys)))

pub each_one : (width v : ℕ) {kept n : ℕ} {before after : List ℕ} → Kept before kept (bytes_low_first 0 width v) after n
    → Kept before kept (each_in width (v ∷ [])) after n
unfolding each_in
each_one width v p = rw (append-nil, ← low_bytes width v) p

pub entries_length : (n : ℕ) (s : List ℕ) → length (entries_in n s) ≡ n
unfolding entries_in
entries_length zero s = refl
entries_length (suc n) s = ap suc (entries_length n (drop 2 s))

pub entry_at : (n i : ℕ) (s : List ℕ) → i < n → little_endian 2 (drop (2 * i) s) ≡ get_or (entries_in n s) i 0
unfolding entries_in
entry_at zero i s h = absurd (omega arith)
entry_at (suc n) zero s h = refl
entry_at (suc n) (suc i) s h =
    let e : 2 * suc i ≡ 2 + 2 * i = omega arith in
    rw e (ap (little_endian 2) (sym (drop-drop (2 * i) 2 s)) ∙ entry_at n i (drop 2 s) (omega arith))
