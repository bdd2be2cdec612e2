-- What the summary's functions put is its text, and there is room for each line of it.
use mathlib.Core.Path.{◌≡◌, ◌∙◌, sym, ap}
use mathlib.Core.List.{List, [], ◌∷◌, ◌++◌, append-nil, append_assoc}
use Prim.Native.Nat.{ℕ, zero, suc, ◌+◌, ◌*◌, ◌^◌, ◌≤◌, ◌<◌}
use native.Mathlib.Numerals.{add-one}
use native.Mathlib.Omega.{arith}
use lib.Count.{ones-le}
use lib.Dec.{eqb}
use lib.ListN.{length, take, get_or, replicate, length-append}
use lib.Seq.{take_all}
use borrow.Author.Tests.{eq-eqb, ne_eqb, le-ltb}
use Rattle.text.proofs.Bools.{by_test}
use Rattle.verdict.specs.Codes.{rule_codes, form_codes, polish_codes, codes, code_count}
use Rattle.verdict.specs.Verdict.{pick}
use Rattle.verdict.specs.Counted.{bits_set}
use Rattle.verdict.specs.Bits.{bits_of, flags_in, listed_by}
use Rattle.verdict.proofs.Promises.{code_count_lem}
use Rattle.buffer.specs.Text.{added}
use Rattle.buffer.proofs.TextLaws.{added_none, added_then, added_on}
use Rattle.summary.specs.declared.Record.{Record}
use Rattle.printing.specs.Printed.{decimal, spaced}
use Rattle.printing.specs.Report.{count_text, count_texts, headings_of, record_text, longest_count, KeptWithin, Put}
use Rattle.printing.proofs.DecimalLaws.{digits_under, spaced_join, spaced_short}

-- words with a bit for each code
abbrev all_bits : List ℕ
all_bits = 18446744073709551615 ∷ 18446744073709551615 ∷ 8191 ∷ []

few_bits : bits_set all_bits ≤ code_count
few_bits =
    omega (arith, ones-le 64 18446744073709551615 (omega arith), ones-le 13 8191 (omega arith))

pub all_listed : listed_by all_bits (replicate code_count 0) ≡ codes
unfolding listed_by flags_in bits_of pick codes rule_codes form_codes polish_codes
all_listed = rw (le-ltb code_count (bits_set all_bits) few_bits)

-- a code with its count, or nothing
pub counted_none : (room : ℕ) (out : List ℕ) (code count : ℕ) → count ≡ 0 → out ≡ added room out (count_text code count)
unfolding count_text
counted_none room out code count e = rw (eq-eqb count 0 e) (sym (added_none room out))

pub counted_one : (room : ℕ) (s0 : List ℕ) {s1 s2 s3 : List ℕ} (code count : ℕ) → (count ≡ 0 → ⊥) → s1 ≡ added room s0 (spaced (code ∷ []))
    → s2 ≡ added room s1 (58 ∷ []) → s3 ≡ added room s2 (decimal count) → s3 ≡ added room s0 (count_text code count)
unfolding count_text spaced
counted_one room s0 code count e p q r =
    let text : (spaced (code ∷ []) ++ (58 ∷ [])) ++ decimal count ≡ (32 ∷ decimal code) ++ (58 ∷ decimal count) =
    simp append_assoc in
    rw (ne_eqb count 0 e, r, q, p) (simp added_then (ap (added room s0) text))

-- the first i codes are put
pub record CountedSoFar (table counts : List ℕ) (room : ℕ) (before buffer : List ℕ) (i : ℕ) : Type 0 where
  pub within : i ≤ length table
  pub so_far : buffer ≡ added room before (count_texts (take i table) (take i counts))

one_more : (table counts : List ℕ) (i : ℕ) → i < length table → length table ≡ length counts
    → count_texts (take (suc i) table) (take (suc i) counts)
    ≡ count_texts (take i table) (take i counts) ++ count_text (get_or table i 0) (get_or counts i 0)
unfolding count_texts
one_more [] counts i h e = absurd (omega arith)
one_more (code ∷ table) [] i h e = absurd (omega arith)
one_more (code ∷ table) (count ∷ counts) zero h e = append-nil (count_text code count)
one_more (code ∷ table) (count ∷ counts) (suc i) h e =
    rw (one_more table counts i (omega arith) (omega arith))
    (sym (append_assoc (count_text code count) (count_texts (take i table) (take i counts)) (count_text (get_or table i 0) (get_or counts i 0))))

module _ {table counts before : List ℕ} {room : ℕ} where
  pub counts_start : CountedSoFar table counts room before before 0
  unfolding count_texts
  counts_start = record { within = omega arith; so_far = sym (added_none room before) }

  module _ {buffer : List ℕ} {i : ℕ} (p : CountedSoFar table counts room before buffer i) (same : length table ≡ length counts) where
    pub counts_on : {buffer' : List ℕ} → i < length table → buffer' ≡ added room buffer (count_text (get_or table i 0) (get_or counts i 0))
        → CountedSoFar table counts room before buffer' (i + 1)
    counts_on h q =
        record {
          within = omega arith;
          so_far =
              rw (add-one, one_more table counts i h same)
              (added_on room before (count_texts (take i table) (take i counts)) (count_text (get_or table i 0) (get_or counts i 0)) p.so_far q);
        }

    pub counts_all : length table ≤ i → buffer ≡ added room before (count_texts table counts)
    counts_all h =
        let past : length counts ≤ i = omega arith in
        rw (sym (take_all i table h), sym (take_all i counts past)) p.so_far

-- no longer than its digits allow
count_short : (code count : ℕ) → code < 2 ^ 16 → count < 2 ^ 32 → length (count_text code count) ≤ longest_count
unfolding count_text
count_short code count h k =
    by_test (eqb count 0) (λ t. rw t (omega arith))
    (λ t.
    rw (t, length-append)
    (omega (arith, digits_under 20 4 code (omega arith), digits_under 20 9 count (omega arith))))

pub counts_short : (table counts : List ℕ) → ((i : ℕ) → get_or table i 0 < 2 ^ 16) → ((i : ℕ) → get_or counts i 0 < 2 ^ 32)
    → length (count_texts table counts) ≤ longest_count * length table
unfolding count_texts
counts_short [] counts h k = omega arith
counts_short (code ∷ table) [] h k = omega arith
counts_short (code ∷ table) (count ∷ counts) h k =
    rw length-append (omega (arith, count_short code count (h 0) (k 0), counts_short table counts (λ i. h (suc i)) (λ i. k (suc i))))

-- the five counts, one behind the other
pub headings_kept : (r : Record) (room : ℕ) (s0 : List ℕ) {s1 s2 s3 s4 s5 : List ℕ} → s1 ≡ added room s0 (spaced (r.accepted ∷ []))
    → s2 ≡ added room s1 (spaced (r.cancelled ∷ [])) → s3 ≡ added room s2 (spaced (r.found ∷ [])) → s4 ≡ added room s3 (spaced (r.full ∷ []))
    → s5 ≡ added room s4 (spaced (r.refused ∷ [])) → s5 ≡ added room s0 (spaced (headings_of r))
headings_kept r room s0 p q s t u =
    let e : (((spaced (r.accepted ∷ []) ++ spaced (r.cancelled ∷ [])) ++ spaced (r.found ∷ [])) ++ spaced (r.full ∷ [])) ++ spaced (r.refused ∷ [])
    ≡ spaced (headings_of r) =
    sym (spaced_join.joined (r.accepted ∷ r.cancelled ∷ r.found ∷ r.full ∷ []) (r.refused ∷ [])
    ∙ ap (λ (l : List ℕ). l ++ spaced (r.refused ∷ []))
    (spaced_join.joined (r.accepted ∷ r.cancelled ∷ r.found ∷ []) (r.full ∷ [])
    ∙ ap (λ (l : List ℕ). l ++ spaced (r.full ∷ []))
    (spaced_join.joined (r.accepted ∷ r.cancelled ∷ []) (r.found ∷ [])
    ∙ ap (λ (l : List ℕ). l ++ spaced (r.found ∷ [])) (spaced_join.joined (r.accepted ∷ []) (r.cancelled ∷ []))))) in
    rw (u, t, s, q, p) (simp added_then (ap (added room s0) e))

-- a record's line, and no longer than the longest answer
pub record_put : (name : List ℕ) (r : Record) (room : ℕ) (s0 : List ℕ) {s1 s2 s3 s4 : List ℕ} {table : List ℕ} → length name ≤ 20 → table ≡ codes
    → s1 ≡ added room s0 name → s2 ≡ added room s1 (spaced (headings_of r))
    → KeptWithin (longest_count * length table) room s2 (count_texts table r.codes) s3 → s4 ≡ added room s3 (10 ∷ [])
    → Put room s0 (record_text name r) s4
unfolding record_text
record_put name r room s0 {table = table} h e p q t u =
    let text : ((name ++ spaced (headings_of r)) ++ count_texts table r.codes) ++ (10 ∷ []) ≡ record_text name r =
    rw e (simp append_assoc) in
    record {
      keeps = rw (u, t.keeps, q, p) (simp added_then (ap (added room s0) text));
      few = simp length-append (omega (arith, spaced_short (headings_of r), rw e at t.few, code_count_lem));
    }
