-- Who has a record: how one line falls.
use mathlib.Core.Path.{◌≡◌, refl, sym, ap, ◌∙◌}
use mathlib.Core.Bool.{Bool, true, false, not, ◌||◌, true≢false}
use mathlib.Core.List.{List, [], ◌∷◌, ◌++◌}
use mathlib.Core.Logic.{◌⊎◌, inl, inr}
use Prim.Native.Nat.{ℕ, ◌≤◌, ◌<◌}
use native.Mathlib.Omega.{arith}
use borrow.Author.Tests.{leb-true, leb-false}
use lib.Dec.{leb}
use lib.ListN.{length, length-append}
use lib.Seq.{take_all, take-append-le, length-take-le}
use Rattle.text.specs.Word.{same}
use Rattle.text.proofs.Bools.{by_test, and_left, and_right, or_left, or_right}
use Rattle.summary.specs.declared.Line.{Line}
use Rattle.summary.specs.declared.Record.{Record}
use Rattle.summary.specs.Counting.{blank, fresh}
use Rattle.day.specs.Counts.{among, firms as firms_of, seated as seated_of, of_firm as of_firm_by, of_none as of_none_by, record_of as record_of_by}
use Rattle.register.proofs.Words.{same_refl, same_true}
use Rattle.day.proofs.Lists.{known, distinct, known_take, among_take}
use Rattle.day.proofs.Numbers.{noted, other_kept, none_counted}

-- of the lines as they are noted
abbrev pub firms : List Line → List (List ℕ)
firms h = firms_of noted h

abbrev pub seated : ℕ → List Line → List (List ℕ)
seated m h = seated_of noted m h

abbrev pub of_firm : List ℕ → Line → List Line → Bool
of_firm e l h = of_firm_by noted e l h

abbrev pub of_none : ℕ → Line → List Line → Bool
of_none m l h = of_none_by noted m l h

abbrev pub record_of : List ℕ → (Line → List Line → Bool) → List Line → Record
record_of e such h = record_of_by noted e such h

pub is_of : (e : List ℕ) (l : Line) (h : List Line) → blank l.entity ≡ false → same l.entity e ≡ true → of_firm e l h ≡ true
is_of e l h b s = rw (b, s)

pub not_of : (e : List ℕ) (l : Line) (h : List Line) → same l.entity e ≡ false → of_firm e l h ≡ false
not_of e l h s = by_test (blank l.entity) (λ b. rw b) (λ b. rw (b, s))

among_append : (e g : List ℕ) (fs : List (List ℕ)) → among e fs ≡ false → same e g ≡ false → among e (fs ++ (g ∷ [])) ≡ false
among_append e g [] a s = rw s
among_append e g (f ∷ fs) a s = rw (or_left (same e f) (among e fs) a) (among_append e g fs (or_right (same e f) (among e fs) a) s)

-- and the other way
pub among_parts : (e g : List ℕ) (fs : List (List ℕ)) → among e (fs ++ (g ∷ [])) ≡ false → (among e fs ≡ false) × (same e g ≡ false)
among_parts e g [] a = (refl, or_left (same e g) false a)
among_parts e g (f ∷ fs) a =
    let r = among_parts e g fs (or_right (same e f) (among e (fs ++ (g ∷ []))) a) in
    (rw (or_left (same e f) (among e (fs ++ (g ∷ []))) a) r.0, r.1)

other_way : (e f : List ℕ) → same e f ≡ false → same f e ≡ false
other_way e f s = by_test (same f e) (λ t. absurd (true≢false (sym (same_refl e) ∙ ap (same e) (same_true f e t) ∙ s))) (λ t. t)

known_append : (g : List ℕ) (fs : List (List ℕ)) → known fs ≡ true → blank g ≡ false → known (fs ++ (g ∷ [])) ≡ true
known_append g [] k n = rw n
known_append g (f ∷ fs) k n = rw (and_left (not (blank f)) (known fs) k) (known_append g fs (and_right (not (blank f)) (known fs) k) n)

distinct_append : (g : List ℕ) (fs : List (List ℕ)) → distinct fs ≡ true → among g fs ≡ false → distinct (fs ++ (g ∷ [])) ≡ true
distinct_append g [] d a = refl
distinct_append g (f ∷ fs) d a =
    by_test (among f fs)
    (λ t. absurd (true≢false (sym (and_left (not (among f fs)) (distinct fs) d) ∙ rw t)))
    (λ t. rw (among_append f g fs t (other_way g f (or_left (same g f) (among g fs) a))) (distinct_append g fs (and_right (not (among f fs)) (distinct fs) d) (or_right (same g f) (among g fs) a)))

pub firms_known : (h : List Line) → known (firms h) ≡ true
unfolding firms_of
firms_known [] = refl
firms_known (l ∷ h) =
    by_test (blank l.entity || among l.entity (firms h)) (λ t. rw t (firms_known h))
    (λ t. rw t (known_append l.entity (firms h) (firms_known h) (or_left (blank l.entity) (among l.entity (firms h)) t)))

pub firms_distinct : (h : List Line) → distinct (firms h) ≡ true
unfolding firms_of
firms_distinct [] = refl
firms_distinct (l ∷ h) =
    by_test (blank l.entity || among l.entity (firms h)) (λ t. rw t (firms_distinct h))
    (λ t. rw t (distinct_append l.entity (firms h) (firms_distinct h) (or_right (blank l.entity) (among l.entity (firms h)) t)))

-- a blank one is among none
pub blank_none : (e : List ℕ) (fs : List (List ℕ)) → blank e ≡ true → known fs ≡ true → among e fs ≡ false
blank_none e [] b k = refl
blank_none e (f ∷ fs) b k =
    by_test (same e f)
    (λ t. absurd (true≢false (sym (and_left (not (blank f)) (known fs) k) ∙ rw (same_true e f t, b))))
    (λ t. rw t (blank_none e fs b (and_right (not (blank f)) (known fs) k)))

among_same : (e f : List ℕ) (fs : List (List ℕ)) → among e fs ≡ false → among f fs ≡ true → same e f ≡ false
among_same e f fs a b = by_test (same e f) (λ t. absurd (true≢false (sym b ∙ ap (λ (g : List ℕ). among g fs) (same_true e f t) ∙ a))) (λ t. t)

-- an entity that has not come yet has no line
pub not_yet : (e : List ℕ) (h : List Line) → blank e ≡ false → among e (firms h) ≡ false → record_of e (of_firm e) h ≡ fresh e
unfolding firms_of
not_yet e [] n a = none_counted e (of_firm e)
not_yet e (l ∷ h) n a =
    by_test (blank l.entity || among l.entity (firms h))
    (λ t. let b : among e (firms h) ≡ false = rw t at a in
    other_kept e (of_firm e) l h
    (not_of e l h (by_test (same l.entity e)
    (λ s. let z : e ≡ l.entity = same_true l.entity e s in absurd (true≢false (sym t ∙ rw (sym z, n, b))))
    (λ s. s))) ∙ not_yet e h n b)
    (λ t. let b : among e (firms h ++ (l.entity ∷ [])) ≡ false = rw t at a in
    other_kept e (of_firm e) l h (not_of e l h (other_way e l.entity (among_parts e l.entity (firms h) b).1)) ∙ not_yet e h n (among_parts e l.entity (firms h) b).0)

-- how a line falls: to the common record; to its entity's; or it takes a free one
pub data Falls (m : ℕ) (l : Line) (h : List Line) : Type 0 where
  common : of_none m l h ≡ true → seated m (l ∷ h) ≡ seated m h → among l.entity (seated m h) ≡ false → ((blank l.entity ≡ true) ⊎ (blank l.entity ≡ false) × (m ≤ length (seated m h))) → Falls m l h
  old : of_none m l h ≡ false → seated m (l ∷ h) ≡ seated m h → among l.entity (seated m h) ≡ true → blank l.entity ≡ false → Falls m l h
  taken : of_none m l h ≡ false → seated m h ≡ firms h → length (firms h) < m → seated m (l ∷ h) ≡ firms h ++ (l.entity ∷ []) → among l.entity (firms h) ≡ false → blank l.entity ≡ false → Falls m l h

pub falls : (m : ℕ) (l : Line) (h : List Line) → Falls m l h
unfolding firms_of
falls m l h =
    by_test (blank l.entity)
    (λ b. common (rw b) (rw b) (blank_none l.entity (seated m h) b (known_take m (firms h) (firms_known h))) (inl b))
    (λ b. by_test (among l.entity (seated m h))
    (λ a. old (rw (b, a))
    (by_test (among l.entity (firms h)) (λ t. rw (b, t)) (λ t. absurd (true≢false (sym a ∙ among_take m l.entity (firms h) t)))) a b)
    (λ a. by_test (leb m (length (firms h)))
    (λ f. common (rw (b, a, f))
    (by_test (among l.entity (firms h)) (λ t. rw (b, t)) (λ t. rw (b, t) (take-append-le m (firms h) (l.entity ∷ []) (leb-true m (length (firms h)) f)))) a
    (inr (b, omega (arith, length-take-le m (firms h) (leb-true m (length (firms h)) f)))))
    (λ f. let few : length (firms h) < m = leb-false m (length (firms h)) f in
    let all : seated m h ≡ firms h = take_all m (firms h) (omega arith) in
    let n : among l.entity (firms h) ≡ false = rw all at a in
    taken (rw (b, a, f)) all few
    (rw (b, n) (take_all m (firms h ++ (l.entity ∷ [])) (rw (length-append (firms h) (l.entity ∷ [])) (omega arith)))) n b)))
