-- What is printed for a line, part by part.
use mathlib.Core.Path.{◌≡◌, ap}
use mathlib.Core.List.{List, [], ◌∷◌, ◌++◌, append_assoc}
use Prim.Native.Nat.{ℕ}
use Rattle.buffer.specs.Text.{added}
use Rattle.buffer.proofs.TextLaws.{added_then, added_on}
use Rattle.printing.specs.Printed.{decimal, spaced, printed}
use Rattle.printing.proofs.DecimalLaws.{spaced_join}

module _ (number answer count : ℕ) where
  -- number, answer and count: one behind the other
  pub told_in_order : (room : ℕ) (s0 : List ℕ) {s1 s2 s3 : List ℕ} → s1 ≡ added room s0 (decimal number) → s2 ≡ added room s1 (spaced (answer ∷ []))
      → s3 ≡ added room s2 (spaced (count ∷ [])) → s3 ≡ added room s0 (decimal number ++ spaced (answer ∷ count ∷ []))
  told_in_order room s0 p q r =
      let e : (decimal number ++ spaced (answer ∷ [])) ++ spaced (count ∷ []) ≡ decimal number ++ spaced (answer ∷ count ∷ []) =
      rw (spaced_join.joined (answer ∷ []) (count ∷ [])) (simp append_assoc) in
      rw (r, q, p) (simp added_then (ap (added room s0) e))

  pub parts_printed : (codes : List ℕ)
      → ((decimal number ++ spaced (answer ∷ count ∷ [])) ++ spaced codes) ++ (10 ∷ []) ≡ printed number answer count codes
  unfolding printed
  parts_printed codes = rw (spaced_join.joined (answer ∷ count ∷ []) codes) (simp append_assoc)

  -- behind them codes, LF
  pub in_order : (codes : List ℕ) (room : ℕ) (s0 : List ℕ) {s1 s2 s3 : List ℕ}
      → s1 ≡ added room s0 (decimal number ++ spaced (answer ∷ count ∷ [])) → s2 ≡ added room s1 (spaced codes) → s3 ≡ added room s2 (10 ∷ [])
      → s3 ≡ added room s0 (printed number answer count codes)
  in_order codes room s0 p q r = rw (r, q, p) (simp added_then (ap (added room s0) (parts_printed codes)))
