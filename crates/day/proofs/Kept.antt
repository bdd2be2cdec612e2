-- What a run keeps, line by line as it is noted.
use mathlib.Core.Path.{◌≡◌, refl, sym, ap, subst, ◌∙◌}
use mathlib.Core.Bool.{true, false, not, true≢false}
use mathlib.Core.List.{List, [], ◌∷◌, ◌++◌, map, map-append, append_assoc}
use mathlib.Core.Logic.{◌⊎◌, ⊎_elim}
use Prim.Native.Nat.{ℕ, suc, ◌+◌, ◌≤◌, ◌<◌}
use native.Mathlib.Omega.{arith}
use native.Mathlib.Nat.{zero-add}
use borrow.Author.Tests.{ltb-false}
use lib.Dec.{ltb}
use lib.ListN.{length, get_or, set, take, drop, length-set, length-append, length-map, length-take}
use lib.Seq.{get_or-take, take-set-lt, drop-set-lt, get_or-append_seam, set-append_seam, length-take-le, take-nil}
use Rattle.text.specs.Word.{same}
use Rattle.text.proofs.Bools.{by_test, and_left, and_right}
use Rattle.summary.specs.declared.Line.{Line}
use Rattle.summary.specs.declared.Record.{Record}
use Rattle.summary.specs.declared.Tally.{Tally}
use Rattle.summary.specs.Judged.{no_entity}
use Rattle.summary.specs.Counting.{top, blank, fresh, added, stuck_in, counted_of, entered_of}
use Rattle.summary.specs.Noting.{reach_of, first_stop, entity_of, free, After, note_of}
use Rattle.summary.proofs.SearchLaws.{note_in_table, note_in_common}
use Rattle.day.specs.Counts.{among, firms as firms_of, lines_in, lines_in_all}
use Rattle.day.specs.Summary.{all_free, used}
use Rattle.register.proofs.Words.{same_refl}
use Rattle.day.proofs.Lists.{distinct, find, find_among, find_none, known_take, distinct_take, first_not, stop_find, get_or_find, map_others, set_find}
use Rattle.day.proofs.Numbers.{none_at_top, such_added, other_kept, none_counted, lines_counted, record_entity}
use Rattle.day.proofs.Seats.{firms, seated, of_firm, of_none, record_of, is_of, not_of, firms_known, firms_distinct, not_yet, Falls, common, old, taken, falls}

abbrev pub firm : List Line → List ℕ → Record
firm h e = record_of e (of_firm e) h

abbrev pub none : ℕ → List Line → Record
none m h = record_of no_entity (of_none m) h

pub record Kept (m : ℕ) (start : List Record) (h : List Line) (rs : List Record) (c : Record) : Type 0 where
  pub rest : List Record
  pub size : length rs ≡ length start
  pub holds : take m rs ≡ map (firm h) (seated m h) ++ rest
  pub frees : all_free rest ≡ true
  pub later : drop m rs ≡ drop m start
  pub common_is : c ≡ none m h

-- one line more: what is kept then, and what noting it says
pub record Step (m : ℕ) (start : List Record) (h : List Line) (l : Line) (x : After) : Type 0 where
  pub keeps : Kept m start (l ∷ h) x.records x.common
  pub went : x.noted.common ≡ of_none m l h
  pub none_stuck : x.noted.stuck ≡ false

used_within : (rs : List Record) → used rs ≤ length rs
used_within rs = by_test (ltb (length rs) 256) (λ t. rw t (omega arith)) (λ t. rw t (omega (arith, ltb-false (length rs) 256 t)))

-- a line of an entity reaches all the records that are used
reach_all : (start rs : List Record) (e : List ℕ) → length rs ≡ length start → blank e ≡ false → reach_of (length rs) e ≡ used start
unfolding reach_of
reach_all start rs e s b = rw (b, s)

reach_none : (n : ℕ) (e : List ℕ) → blank e ≡ true → reach_of n e ≡ 0
unfolding reach_of
reach_none n e b = rw b

stop_none : (e : List ℕ) (rs : List Record) → first_stop entity_of e (take 0 rs) ≡ 0
unfolding first_stop
stop_none e rs = refl

pub take_most : {A : Type 0} (n : ℕ) (xs : List A) → length (take n xs) ≤ n
take_most n xs = rw (length-take n xs) (omega arith)

-- a record of an entity counts the line; a free one is taken first
entered_known : (r : Record) (l : Line) → blank r.entity ≡ false → entered_of r l ≡ counted_of r l
unfolding entered_of
entered_known r l b = rw b

entered_free : (r : Record) (l : Line) → blank r.entity ≡ true → entered_of r l ≡ counted_of (fresh l.entity) l
unfolding entered_of
entered_free r l b = rw b

module _ (start : List Record) (h : List Line) (rs : List Record) (c : Record) (l : Line) (k : Kept (used start) start h rs c) (fits : length h < top) where
  abbrev m : ℕ
  m = used start

  abbrev e : List ℕ
  e = l.entity

  abbrev fs : List (List ℕ)
  fs = seated m h

  others : (f : List ℕ) → same e f ≡ false → firm (l ∷ h) f ≡ firm h f
  others f s = other_kept f (of_firm f) l h (not_of f l h s)

  stop : blank e ≡ false → first_stop entity_of e (take (reach_of (length rs) e) rs) ≡ find e fs
  stop b = ap (λ (n : ℕ). first_stop entity_of e (take n rs)) (reach_all start rs e k.size b) ∙ ap (first_stop entity_of e) k.holds
      ∙ stop_find (firm h) (λ f. record_entity f (of_firm f) h) e fs k.rest (known_take m (firms h) (firms_known h)) k.frees

  room : m ≤ length rs
  room = rw k.size (used_within start)

  here : (i : ℕ) → i < m → get_or rs i free ≡ get_or (map (firm h) fs ++ k.rest) i free
  here i lt = sym (get_or-take m rs i free lt) ∙ ap (λ (xs : List Record). get_or xs i free) k.holds

  seats_most : length fs ≤ m
  seats_most = take_most m (firms h)

  in_common_lem : of_none m l h ≡ true → seated m (l ∷ h) ≡ fs → among e fs ≡ false → (blank e ≡ true) ⊎ ((blank e ≡ false) × (m ≤ length fs)) → Step m start h l (note_of rs c l)
  in_common_lem t s a w =
      subst (Step m start h l) (sym (note_in_common rs c l (⊎_elim blank_stop full_stop w)))
      (record {
        keeps =
            record {
              rest = k.rest;
              size = k.size;
              holds = k.holds ∙ ap (λ (xs : List Record). xs ++ k.rest) (sym (map_others (firm h) (λ f. record_entity f (of_firm f) h) e (firm (l ∷ h)) others fs a) ∙ ap (map (firm (l ∷ h))) (sym s));
              frees = k.frees;
              later = k.later;
              common_is = ap (λ (r : Record). added r l) k.common_is ∙ such_added no_entity (of_none m) l h t fits;
            };
        went = sym t;
        none_stuck = ap (λ (r : Record). stuck_in r l) k.common_is ∙ none_at_top no_entity (of_none m) l h fits;
      })
    where
      blank_stop : blank e ≡ true → first_stop entity_of e (take (reach_of (length rs) e) rs) ≡ reach_of (length rs) e
      blank_stop b = ap (λ (n : ℕ). first_stop entity_of e (take n rs)) (reach_none (length rs) e b) ∙ stop_none e rs ∙ sym (reach_none (length rs) e b)

      full_stop : (blank e ≡ false) × (m ≤ length fs) → first_stop entity_of e (take (reach_of (length rs) e) rs) ≡ reach_of (length rs) e
      full_stop w = let z : find e fs ≡ length fs = find_none e fs a in stop w.0 ∙ z ∙ (let q : length fs ≡ m = omega (arith, seats_most, w.1) in q) ∙ sym (reach_all start rs e k.size w.0)

  -- the record at the place i is put anew
  put_at : (i : ℕ) (rest : List Record) → i < m → first_stop entity_of e (take (reach_of (length rs) e) rs) ≡ i → blank e ≡ false → entered_of (get_or rs i free) l ≡ counted_of (firm h e) l
      → set (map (firm h) fs ++ k.rest) i (firm (l ∷ h) e) ≡ map (firm (l ∷ h)) (seated m (l ∷ h)) ++ rest → all_free rest ≡ true → of_none m l h ≡ false
      → Step m start h l (note_of rs c l)
  put_at i rest lt q b counted put free-rest t =
      let n : i < reach_of (length rs) e = rw (reach_all start rs e k.size b) lt in
      let is : (entered_of (get_or rs i free) l).after ≡ firm (l ∷ h) e =
      ap (λ (u : Tally). u.after) counted ∙ such_added e (of_firm e) l h (is_of e l h b (same_refl e)) fits
      in
      subst (Step m start h l) (sym (note_in_table rs c l i q n))
      (record {
        keeps =
            record {
              rest = rest;
              size = length-set rs i (entered_of (get_or rs i free) l).after ∙ k.size;
              holds = take-set-lt m rs i (entered_of (get_or rs i free) l).after lt ∙ (λ j. set (k.holds j) i (is j)) ∙ put;
              frees = free-rest;
              later = drop-set-lt m rs i (entered_of (get_or rs i free) l).after lt ∙ k.later;
              common_is = k.common_is ∙ sym (other_kept no_entity (of_none m) l h t);
            };
        went = sym t;
        none_stuck = ap (λ (u : Tally). u.stuck) counted ∙ none_at_top e (of_firm e) l h fits;
      })

  in_old : of_none m l h ≡ false → seated m (l ∷ h) ≡ fs → among e fs ≡ true → blank e ≡ false → Step m start h l (note_of rs c l)
  in_old t s a b =
      let lt : find e fs < m = omega (arith, find_among e fs a, seats_most) in
      put_at (find e fs) k.rest lt (stop b) b (ap (λ (r : Record). entered_of r l) it ∙ entered_known (firm h e) l (ap blank (record_entity e (of_firm e) h) ∙ b))
      (set_find (firm h) (λ f. record_entity f (of_firm f) h) e (firm (l ∷ h)) others fs k.rest (distinct_take m (firms h) (firms_distinct h)) a ∙ ap (λ (gs : List (List ℕ)). map (firm (l ∷ h)) gs ++ k.rest) (sym s))
      k.frees t
    where
      it : get_or rs (find e fs) free ≡ firm h e
      it = here (find e fs) (omega (arith, find_among e fs a, seats_most)) ∙ get_or_find (firm h) (λ f. record_entity f (of_firm f) h) e fs k.rest free a

  -- the first free record is taken
  in_taken : (rest : List Record) → k.rest ≡ rest → of_none m l h ≡ false → fs ≡ firms h → length (firms h) < m → seated m (l ∷ h) ≡ firms h ++ (e ∷ []) → among e (firms h) ≡ false → blank e ≡ false
      → Step m start h l (note_of rs c l)
  in_taken [] r t s few s' a b =
      let z : length (take m rs) ≡ length (map (firm h) fs ++ k.rest) = ap length k.holds in
      let y : length (map (firm h) fs ++ k.rest) ≡ length (firms h) + 0 = (λ i. length (map (firm h) (s i) ++ r i)) ∙ length-append (map (firm h) (firms h)) [] ∙ ap (λ (n : ℕ). n + 0) (length-map (firms h) (firm h)) in
      absurd (omega (arith, z, y, length-take-le m rs room))
  in_taken (f ∷ rest) r t s few s' a b =
      put_at (length (firms h)) rest few (stop b ∙ ap (find e) s ∙ find_none e (firms h) a) b
      (ap (λ (x : Record). entered_of x l) it ∙ entered_free f l (and_left (blank f.entity) (all_free rest) (ap all_free (sym r) ∙ k.frees)) ∙ ap (λ (x : Record). counted_of x l) (sym (not_yet e h b a)))
      ((λ i. set (map (firm h) (s i) ++ r i) (length (firms h)) (firm (l ∷ h) e))
      ∙ ap (λ (n : ℕ). set (map (firm h) (firms h) ++ (f ∷ rest)) n (firm (l ∷ h) e)) (sym (length-map (firms h) (firm h)))
      ∙ set-append_seam (map (firm h) (firms h)) f rest (firm (l ∷ h) e)
      ∙ ap (λ (xs : List Record). xs ++ (firm (l ∷ h) e ∷ rest)) (sym (map_others (firm h) (λ g. record_entity g (of_firm g) h) e (firm (l ∷ h)) others (firms h) a))
      ∙ sym (append_assoc (map (firm (l ∷ h)) (firms h)) (firm (l ∷ h) e ∷ []) rest)
      ∙ ap (λ (xs : List Record). xs ++ rest) (sym (map-append (firm (l ∷ h)) (firms h) (e ∷ [])) ∙ ap (map (firm (l ∷ h))) (sym s')))
      (and_right (blank f.entity) (all_free rest) (ap all_free (sym r) ∙ k.frees)) t
    where
      it : get_or rs (length (firms h)) free ≡ f
      it = here (length (firms h)) few ∙ (λ i. get_or (map (firm h) (s i) ++ r i) (length (firms h)) free)
          ∙ ap (λ (n : ℕ). get_or (map (firm h) (firms h) ++ (f ∷ rest)) n free) (sym (length-map (firms h) (firm h))) ∙ get_or-append_seam (map (firm h) (firms h)) f rest free

  pub kept_on : Step m start h l (note_of rs c l)
  kept_on = go (falls m l h)
    where
      go : Falls m l h → Step m start h l (note_of rs c l)
      go (common t s a w) = in_common_lem t s a w
      go (old t s a b) = in_old t s a b
      go (taken t s few s' a b) = in_taken k.rest refl t s few s' a b

pub kept_none : (start : List Record) → all_free (take (used start) start) ≡ true → Kept (used start) start [] start free
unfolding firms_of
kept_none start f =
    record {
      rest = take (used start) start;
      size = refl;
      holds = λ i. map (firm []) (sym (take-nil (used start)) i) ++ take (used start) start;
      frees = f;
      later = refl;
      common_is = sym (none_counted no_entity (of_none (used start)));
    }

-- the lines of all add up
lines_append : (rs : List Record) (r : Record) → lines_in_all (rs ++ (r ∷ [])) ≡ lines_in_all rs + lines_in r
lines_append [] r = omega arith
lines_append (x ∷ rs) r = omega (arith, lines_append rs r)

none_in_fresh : (e : List ℕ) → lines_in (fresh e) ≡ 0
unfolding fresh
none_in_fresh e = refl

module _ (m : ℕ) (l : Line) (h : List Line) where
  one_of_firm : (f : List ℕ) → blank l.entity ≡ false → same l.entity f ≡ true → lines_in (firm (l ∷ h) f) ≡ suc (lines_in (firm h f))
  one_of_firm f b t = lines_counted f (of_firm f) (l ∷ h) ∙ rw (b, t) (omega (arith, lines_counted f (of_firm f) h))

  not_firm : (f : List ℕ) → same l.entity f ≡ false → firm (l ∷ h) f ≡ firm h f
  not_firm f t = other_kept f (of_firm f) l h (not_of f l h t)

  same_all : (fs : List (List ℕ)) → among l.entity fs ≡ false → lines_in_all (map (firm (l ∷ h)) fs) ≡ lines_in_all (map (firm h) fs)
  same_all fs a = ap lines_in_all (map_others (firm h) (λ f. record_entity f (of_firm f) h) l.entity (firm (l ∷ h)) not_firm fs a)

  one_of_all : (fs : List (List ℕ)) → blank l.entity ≡ false → distinct fs ≡ true → among l.entity fs ≡ true → lines_in_all (map (firm (l ∷ h)) fs) ≡ suc (lines_in_all (map (firm h) fs))
  one_of_all [] n d a = absurd (true≢false (sym a))
  one_of_all (f ∷ fs) n d a =
      by_test (same l.entity f)
      (λ t. omega (arith, one_of_firm f n t, same_all fs (first_not l.entity f fs t d)))
      (λ t. let b : among l.entity fs ≡ true = rw t at a in
      omega (arith, ap lines_in (not_firm f t), one_of_all fs n (and_right (not (among f fs)) (distinct fs) d) b))

  one_of_none : of_none m l h ≡ true → lines_in (none m (l ∷ h)) ≡ suc (lines_in (none m h))
  one_of_none t = lines_counted no_entity (of_none m) (l ∷ h) ∙ rw t (omega (arith, lines_counted no_entity (of_none m) h))

  not_none : of_none m l h ≡ false → lines_in (none m (l ∷ h)) ≡ lines_in (none m h)
  not_none t = ap lines_in (other_kept no_entity (of_none m) l h t)

  total_on : Falls m l h → lines_in_all (map (firm h) (seated m h)) + lines_in (none m h) ≡ length h → lines_in_all (map (firm (l ∷ h)) (seated m (l ∷ h))) + lines_in (none m (l ∷ h)) ≡ suc (length h)
  total_on (common t s a w) q = omega (arith, q, ap (λ (fs : List (List ℕ)). lines_in_all (map (firm (l ∷ h)) fs)) s, same_all (seated m h) a, one_of_none t)
  total_on (old t s a b) q = omega (arith, q, ap (λ (fs : List (List ℕ)). lines_in_all (map (firm (l ∷ h)) fs)) s, one_of_all (seated m h) b (distinct_take m (firms h) (firms_distinct h)) a, not_none t)
  total_on (taken t s few s' a b) q =
      omega (
        arith,
        q,
        ap (λ (fs : List (List ℕ)). lines_in_all (map (firm h) fs)) s,
        ap (λ (fs : List (List ℕ)). lines_in_all (map (firm (l ∷ h)) fs)) s',
        ap lines_in_all (map-append (firm (l ∷ h)) (firms h) (l.entity ∷ [])),
        lines_append (map (firm (l ∷ h)) (firms h)) (firm (l ∷ h) l.entity),
        same_all (firms h) a,
        one_of_firm l.entity b (same_refl l.entity),
        ap lines_in (not_yet l.entity h b a),
        none_in_fresh l.entity,
        not_none t,
      )

pub total : (m : ℕ) (h : List Line) → lines_in_all (map (firm h) (seated m h)) + lines_in (none m h) ≡ length h
unfolding firms_of
total m [] = (λ i. lines_in_all (map (firm []) (take-nil m i)) + lines_in (none_counted no_entity (of_none m) i)) ∙ (zero-add (lines_in (fresh no_entity)) ∙ none_in_fresh no_entity)
total m (l ∷ h) = total_on m l h (falls m l h) (total m h)
