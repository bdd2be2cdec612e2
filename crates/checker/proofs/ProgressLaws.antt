-- Where the program stands behind bytes that come in pieces; and what the calls of a turn leave.
use mathlib.Core.Path.{◌≡◌, ◌∙◌, refl, sym, ap}
use mathlib.Core.Bool.{Bool, true, false, cond, true≢false}
use mathlib.Core.List.{List, [], ◌∷◌, ◌++◌, append-nil, append_assoc}
use Prim.Native.Nat.{ℕ, suc, ◌+◌, ◌≤◌, ◌<◌}
use native.Mathlib.Omega.{arith}
use lib.Dec.{eqb}
use lib.ListN.{length, take, drop, length-append, length-take, length-drop}
use lib.Seq.{take_all, take-add}
use borrow.Author.Tests.{eqb-false, le-leb, lt-leb}
use Rattle.text.proofs.Bools.{by_test}
use Rattle.table.specs.declared.Table.{Table}
use Rattle.buffer.specs.Text.{added}
use Rattle.buffer.proofs.KeptLaws.{take_again}
use Rattle.buffer.proofs.TextLaws.{added_least, added_front}
use Rattle.checker.specs.Bare.{bare}
use Rattle.checker.specs.declared.progress.Carried.{Carried}
use Rattle.checker.specs.declared.progress.Progress.{Progress}
use Rattle.checker.specs.Progress.{progress, start, told, left, entered, room, raised, ended, more, step, said, after, writes, line_end, Answered, Told, Advanced, TookRead, Reached, ReadOn}
use Rattle.checker.proofs.LineEndLaws.{end_now, end_next, end_within, with_end}

pub after_append : (p : Progress) (s t : List ℕ) → after p (s ++ t) ≡ after (after p s) t
unfolding after
after_append p [] t = refl
after_append p (b ∷ s) t = after_append (step p b) s t

pub writes_append : (p : Progress) (s t : List ℕ) → writes p (s ++ t) ≡ writes p s ++ writes (after p s) t
unfolding after writes
writes_append p [] t = refl
writes_append p (b ∷ s) t =
    ap (λ (l : List ℕ). said p b ++ l) (writes_append (step p b) s t)
    ∙ sym (append_assoc (said p b) (writes (step p b) s) (writes (after (step p b) s) t))

step_other : (p : Progress) (b : ℕ) → eqb b 10 ≡ false → step p b ≡ more p b
step_other p b t = ap (λ (x : Bool). cond x (ended p) (more p b)) t

none_kept : (s begun : List ℕ) (number : ℕ) (register : List ℕ) (table : Table) (end : ℕ) → length begun ≤ room → end ≡ 0
    → after (progress begun number register table) (take end s) ≡ progress (take room (begun ++ take end s)) number register table
unfolding after
none_kept s begun number register table end h e = rw (e, append-nil begun, take_all room begun h)

-- before the first LF bytes are only kept
pub plain : (s begun : List ℕ) (number : ℕ) (register : List ℕ) (table : Table) → length begun ≤ room
    → after (progress begun number register table) (take (line_end s) s) ≡ progress (take room (begun ++ take (line_end s) s)) number register table
unfolding after line_end
plain [] begun number register table h = none_kept [] begun number register table 0 h refl
plain (b ∷ s) begun number register table h =
    by_test (eqb b 10)
    (λ t. none_kept (b ∷ s) begun number register table (line_end (b ∷ s)) h (end_now b s t))
    (λ t.
    let e : line_end (b ∷ s) ≡ suc (line_end s) = end_next b s t in
    (λ i. after (progress begun number register table) (take (e i) (b ∷ s)))
    ∙ ap (λ (p : Progress). after p (take (line_end s) s)) (step_other (progress begun number register table) b t)
    ∙ plain s (take room (begun ++ (b ∷ []))) number register table (rw length-take (omega arith))
    ∙ ap (λ (l : List ℕ). progress l number register table)
    (take_again room (begun ++ (b ∷ [])) (take (line_end s) s) ∙ ap (take room) (append_assoc begun (b ∷ []) (take (line_end s) s)))
    ∙ sym (λ i. progress (take room (begun ++ take (e i) (b ∷ s))) number register table))

pub silent : (s : List ℕ) (p : Progress) → writes p (take (line_end s) s) ≡ []
unfolding writes line_end
silent [] p = refl
silent (b ∷ s) p =
    by_test (eqb b 10)
    (λ t. ap (λ (n : ℕ). writes p (take n (b ∷ s))) (end_now b s t))
    (λ t.
    ap (λ (n : ℕ). writes p (take n (b ∷ s))) (end_next b s t)
    ∙ ap (λ (x : Bool). cond x (told p.carried.number (bare p.begun) p.carried.register) [] ++ writes (step p b) (take (line_end s) s)) t
    ∙ silent s (step p b))

-- a line that is skipped, and one that is answered
pub told_none : {c : Carried} {line put : List ℕ} → c.number ≤ 1 → put ≡ [] → Told c line put c
unfolding told left entered
told_none {c} h e = record { prints = rw (le-leb c.number 1 h) e; carries = rw (le-leb c.number 1 h) }

pub told_one : {c c' : Carried} {line put : List ℕ} → 1 < c.number → Answered c line put c' → Told c line put c'
unfolding told left entered
told_one {c} h a = record { prints = rw (lt-leb c.number 1 h) a.prints; carries = rw (lt-leb c.number 1 h) a.carries }

module _ (begun : List ℕ) {begun' : List ℕ} {end : ℕ} (chunk : List ℕ) (c : Carried) (e : end ≡ line_end chunk) (k : begun' ≡ added room begun (take end chunk))
    (within : length begun' ≤ room) where
  abbrev now : Progress
  now = record { begun = begun; carried = c }

  -- the bytes before the LF are kept behind those that were
  kept_so : record { begun = begun'; carried = c } ≡ after now (take (line_end chunk) chunk)
  kept_so =
      let fits : length begun ≤ room = omega (arith, ap length k, added_least room begun (take end chunk)) in
      ap (λ (l : List ℕ). record { begun = l; carried = c })
      (k ∙ added_front room begun (take end chunk) fits ∙ (λ i. take room (begun ++ take (e i) chunk)))
      ∙ sym (plain chunk begun c.number c.register c.table fits)

  pub advanced_all : {put : List ℕ} → end ≡ length chunk → put ≡ [] → Advanced now chunk end (record { begun = begun'; carried = c }) put
  advanced_all h none =
      record {
        takes = omega arith;
        stands = kept_so ∙ ap (λ (n : ℕ). after now (take n chunk)) (sym e);
        puts = none ∙ sym (ap (λ (n : ℕ). writes now (take n chunk)) e ∙ silent chunk now);
      }

  pub advanced_line : {c' : Carried} {put none : List ℕ} {next : ℕ} → (end ≡ length chunk → ⊥) → none ≡ [] → next ≡ raised c'.number
      → Told c (bare begun') put c'
      → Advanced now chunk (end + 1) (record { begun = none; carried = record { number = next; register = c'.register; table = c'.table } }) put
  unfolding after writes
  advanced_line {c'} {put} {none} {next} h z r t =
      let inside : line_end chunk < length chunk = omega (arith, end_within chunk) in
      let bytes : take (end + 1) chunk ≡ take (line_end chunk) chunk ++ (10 ∷ []) =
      ap (λ (m : ℕ). take (m + 1) chunk) e ∙ with_end chunk inside in
      record {
        takes = omega arith;
        stands =
            (λ i. progress (z i) ((r ∙ ap (λ (x : Carried). raised x.number) t.carries) i) (t.carries i).register (t.carries i).table)
            ∙ ap ended kept_so
            ∙ sym (after_append now (take (line_end chunk) chunk) (10 ∷ []))
            ∙ ap (after now) (sym bytes);
        puts =
            t.prints
            ∙ sym (append-nil (told c.number (bare begun') c.register))
            ∙ ap (λ (p : Progress). writes p (10 ∷ [])) kept_so
            ∙ ap (λ (l : List ℕ). l ++ writes (after now (take (line_end chunk) chunk)) (10 ∷ [])) (sym (silent chunk now))
            ∙ sym (writes_append now (take (line_end chunk) chunk) (10 ∷ []))
            ∙ ap (writes now) (sym bytes);
      }

-- the chunk is taken up to a place
pub record TakenSoFar (p : Progress) (chunk : List ℕ) (at : ℕ) (q : Progress) : Type 0 where
  pub within : at ≤ length chunk
  pub stands : q ≡ after p (take at chunk)

pub taken_start : {p : Progress} {chunk : List ℕ} → TakenSoFar p chunk 0 p
unfolding after
taken_start = record { within = omega arith; stands = refl }

module _ {p q : Progress} {chunk : List ℕ} {at : ℕ} (so_far : TakenSoFar p chunk at q) where
  pub taken_on : {q' : Progress} {put : List ℕ} {used : ℕ} → Advanced q (drop at chunk) used q' put → TakenSoFar p chunk (at + used) q'
  taken_on {q'} {put} {used} a =
      record {
        within = omega (arith, a.takes, length-drop at chunk, so_far.within);
        stands =
            a.stands
            ∙ ap (λ (x : Progress). after x (take used (drop at chunk))) so_far.stands
            ∙ sym (after_append p (take at chunk) (take used (drop at chunk)))
            ∙ ap (after p) (sym (take-add at used chunk));
      }

-- what a read gave is taken, or there was nothing
pub read_none : {p : Progress} (given : List ℕ) → length given ≤ 0 → TookRead given p p true
unfolding after
read_none [] h = record { stands = refl; at_end = refl }
read_none (b ∷ s) h = absurd (omega arith)

-- where bytes lead
pub from_start : {p q : Progress} → p ≡ start → Reached p q → Reached start q
from_start e r = record { bytes = r.bytes; there = r.there ∙ ap (λ (x : Progress). after x r.bytes) e }

pub on_start : {p : Progress} → ReadOn p p false 0
unfolding after
on_start = record { reached = record { bytes = []; there = refl }; not_early = λ e. omega arith }

module _ {p q : Progress} {turns : ℕ} (so_far : ReadOn p q false turns) where
  pub on_more : {given : List ℕ} {q' : Progress} {ended' : Bool} → TookRead given q q' ended' → ReadOn p q' ended' (turns + 1)
  on_more {given} t =
      record {
        reached =
            record {
              bytes = so_far.reached.bytes ++ given;
              there =
                  t.stands
                  ∙ ap (λ (x : Progress). after x given) so_far.reached.there
                  ∙ sym (after_append p so_far.reached.bytes given);
            };
        not_early =
            λ g.
            let some : length given ≡ 0 → ⊥ = eqb-false (length given) 0 (sym t.at_end ∙ g) in
            rw (length-append so_far.reached.bytes given) (omega (arith, so_far.not_early refl));
      }

-- the loop ends with its turns, or with the input
pub on_done : {p q : Progress} {turns turns' : ℕ} → ReadOn p q false turns → turns' ≤ turns → ReadOn p q false turns'
on_done r h = record { reached = r.reached; not_early = λ e. omega (arith, r.not_early e) }

-- where the input has ended, there may have been any number
pub on_ended : {p q : Progress} {turns turns' : ℕ} → ReadOn p q true turns → ReadOn p q true turns'
on_ended r = record { reached = r.reached; not_early = λ f. absurd (true≢false f) }
