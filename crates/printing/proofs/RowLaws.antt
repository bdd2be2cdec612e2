-- A row of the table, put as the summary has it; and the rows one after another.
use mathlib.Core.Path.{◌≡◌, ◌∙◌, refl, sym, ap, subst}
use mathlib.Core.List.{List, [], ◌∷◌, ◌++◌, append-nil, append_assoc}
use Prim.Native.Nat.{ℕ, zero, suc, ◌+◌, ◌≤◌, ◌<◌}
use native.Mathlib.Numerals.{add-one}
use native.Mathlib.Omega.{arith}
use mathlib.Core.Bool.{true, false}
use lib.Dec.{ltb}
use lib.ListN.{length, take, get_or}
use lib.Seq.{take_all}
use borrow.Author.Tests.{lt-ltb, le-ltb, eq-eqb, ne_eqb}
use Rattle.text.proofs.Bools.{cond_yes, cond_no}
use Rattle.buffer.proofs.TextLaws.{added_none}
use Rattle.summary.specs.declared.Record.{Record}
use Rattle.summary.specs.Noting.{free}
use Rattle.table.specs.declared.Table.{Table}
use Rattle.table.specs.Rows.{record_count, record_at}
use Rattle.printing.specs.Report.{record_text, firm_text, firm_texts, opening, common_text, summary_text, part_of, Put, Reporting, heads, row}

put_as : {room : ℕ} {before text text' after : List ℕ} → text ≡ text' → Put room before text after → Put room before text' after
put_as {room} {before} {after = after} e = subst (λ (t : List ℕ). Put room before t after) e

firm_part : (t : Table) (i : ℕ) {r : Record} → r ≡ record_at t i → i < record_count → firm_text r ≡ part_of t i
unfolding part_of record_at
firm_part t i is_row inside =
    let below : ltb i record_count ≡ true = lt-ltb i record_count inside in
    cond_yes _ below (ap firm_text (is_row ∙ rw below))

module _ (t : Table) (i : ℕ) {r : Record} (is_row : r ≡ record_at t i) {room : ℕ} {before : List ℕ} where
  pub common_row : {after : List ℕ} → record_count ≤ i → Put room before (common_text r) after → Put room before (part_of t i) after
  unfolding part_of record_at
  common_row h =
      let past : ltb i record_count ≡ false = le-ltb i record_count h in
      put_as (cond_no _ past (ap common_text (is_row ∙ rw past)))

  module _ (inside : i < record_count) where
    pub free_row : get_or r.entity 0 0 ≡ 0 → Put room before (part_of t i) before
    unfolding firm_text
    free_row e =
        put_as (cond_yes _ (eq-eqb (get_or r.entity 0 0) 0 e) refl ∙ firm_part t i is_row inside)
        (record { keeps = sym (added_none room before); few = omega arith })

    pub firm_row : {after : List ℕ} → (get_or r.entity 0 0 ≡ 0 → ⊥) → Put room before (record_text r.entity r) after
        → Put room before (part_of t i) after
    unfolding firm_text
    firm_row e p = put_as (cond_no _ (ne_eqb (get_or r.entity 0 0) 0 e) refl ∙ firm_part t i is_row inside) p

texts_more : (records : List Record) (i : ℕ) → i < length records
    → firm_texts (take (suc i) records) ≡ firm_texts (take i records) ++ firm_text (get_or records i free)
unfolding firm_texts
texts_more [] i h = absurd (omega arith)
texts_more (r ∷ records) zero h = append-nil (firm_text r)
texts_more (r ∷ records) (suc i) h =
    rw (texts_more records i (omega arith)) (sym (append_assoc (firm_text r) (firm_texts (take i records)) (firm_text (get_or records i free))))

-- rows one after another: the first ones, and all with the common one
module _ (t : Table) (whole : length t.records ≡ record_count) where
  firsts : {i : ℕ} {output : List ℕ} → Reporting t i output → i ≤ record_count → output ≡ opening ++ firm_texts (take i t.records)
  unfolding firm_texts part_of
  firsts heads h = refl
  firsts (row {i} {output} {put} r e) h =
      let inside : i < record_count = omega arith in
      let part : part_of t i ≡ firm_text (get_or t.records i free) = rw (lt-ltb i record_count inside) in
      (λ j. firsts r (omega arith) j ++ (e ∙ part) j)
      ∙ ap (λ (l : List ℕ). opening ++ l) (sym (texts_more t.records i (omega arith)))
      ∙ ap (λ (k : ℕ). opening ++ firm_texts (take k t.records)) (sym (add-one i))

  all_rows : {k : ℕ} {output : List ℕ} → Reporting t k output → k ≡ record_count + 1 → output ≡ summary_text t
  unfolding part_of summary_text
  all_rows heads h = absurd (omega arith)
  all_rows (row {i} {output} {put} r e) h =
      let last : i ≡ record_count = omega arith in
      let part : part_of t i ≡ common_text t.common = rw (le-ltb i record_count (omega arith)) in
      (λ j. firsts r (omega arith) j ++ (e ∙ part) j)
      ∙ ap (λ (l : List Record). opening ++ (firm_texts l ++ common_text t.common)) (take_all i t.records (omega arith))

  pub reported : {output : List ℕ} → Reporting t (record_count + 1) output → output ≡ summary_text t
  reported r = all_rows r refl
