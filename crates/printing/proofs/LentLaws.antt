-- What is put together in a text with room for it, and put in a lent slice: the text of it, whole.
use Rattle.std.proofs.Common.{◌≡◌, ◌∙◌, ℕ, ◌+◌, ◌*◌, ◌≤◌, List, [], ◌∷◌, ◌++◌, length, take, refl, sym, ap, arith, length-append}
use lib.Seq.{take_all}
use Rattle.buffer.specs.Kept.{Kept}
use Rattle.buffer.specs.Text.{added}
use Rattle.buffer.proofs.KeptLaws.{keep_then, keep_front}
use Rattle.buffer.proofs.TextLaws.{added_all}
use Rattle.printing.specs.Printed.{decimal, spaced, printed, longest}
use Rattle.printing.specs.Report.{Put, PutFirst}
use Rattle.printing.proofs.DecimalLaws.{spaced_short, decimal_short}
use Rattle.printing.proofs.OrderLaws.{parts_printed}

-- an empty text with room for more holds it whole
whole : (room : ℕ) {more none text slice : List ℕ} → length more ≤ room → none ≡ [] → text ≡ added room none more → slice ≡ text → slice ≡ more
whole room {more} fits e p q = q ∙ p ∙ ap (λ (l : List ℕ). added room l more) e ∙ added_all room [] more (omega (arith, fits))

module _ {before after slice : List ℕ} {kept n : ℕ} (k : Kept before kept slice after n) where
  same_text : {text : List ℕ} → slice ≡ text → Kept before kept text after n
  same_text e = rw e at k

  module _ {none text : List ℕ} (e : none ≡ []) (q : slice ≡ text) where
    -- a number behind a space
    pub code_kept : (x : ℕ) → text ≡ added 21 none (spaced (x ∷ [])) → Kept before kept (spaced (x ∷ [])) after n
    code_kept x p = same_text (whole 21 (spaced_short (x ∷ [])) e p q)

    -- number, answer and n
    pub told_kept : (number answer count : ℕ) → text ≡ added 62 none (decimal number ++ spaced (answer ∷ count ∷ []))
        → Kept before kept (decimal number ++ spaced (answer ∷ count ∷ [])) after n
    told_kept number answer count p =
        same_text
        (whole 62 (rw length-append (omega (arith, decimal_short number, spaced_short (answer ∷ count ∷ [])))) e p q)

-- behind these the codes, and LF
pub answer_kept : (number answer count : ℕ) (codes : List ℕ) {s0 s1 s2 s3 : List ℕ} {a b c : ℕ}
    → Kept s0 0 (decimal number ++ spaced (answer ∷ count ∷ [])) s1 a → Kept s1 a (spaced codes) s2 b → Kept s2 b (10 ∷ []) s3 c
    → Kept s0 0 (printed number answer count codes) s3 c
answer_kept number answer count codes {s0} {s3 = s3} {c = c} p q r =
    let all : Kept s0 0 (((decimal number ++ spaced (answer ∷ count ∷ [])) ++ spaced codes) ++ (10 ∷ [])) s3 c = keep_then (keep_then p q) r in
    rw (parts_printed number answer count codes) at all

-- a line that a text has room for, at the start of a slice
pub line_put : {before after text slice line : List ℕ} {n : ℕ} → Put longest [] line text → slice ≡ text → Kept before 0 slice after n
    → PutFirst line before after n
line_put {before} {line = line} p q k =
    let put : Kept before 0 line _ _ = same_text k (whole longest p.few refl p.keeps q) in
    record { keeps = put; prints = λ room. keep_front put ∙ take_all (length before) line (omega (arith, p.few)) }
