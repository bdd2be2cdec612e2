-- The codes found of a call: each rule's and each cell's once if its flag is set, and no other number.
use mathlib.Core.Path.{◌≡◌, ◌∙◌, refl, sym, ap}
use mathlib.Core.Bool.{Bool, true, false}
use mathlib.Core.Logic.{◌⊎◌, inl, inr, ⊎_elim}
use mathlib.Core.List.Memᴰ.{head as here}
use mathlib.Core.List.Memᴰ.{tail as there}
use mathlib.Core.List.{List, [], ◌∷◌, ◌++◌, map, Memᴰ as Among}
use Prim.Native.Nat.{ℕ, zero, suc, ◌+◌, ◌≤◌, ◌<◌}
use native.Mathlib.Omega.{arith}
use borrow.Author.Tests.{ne_eqb, leb-true, leb-false}
use lib.Dec.{leb}
use lib.ListN.{length, get_or, drop, get_or-append}
use lib.Seq.{take-append_seam, get_or-append-add}
use Rattle.text.specs.Number.{count_from}
use Rattle.text.proofs.Bools.{by_test}
use Rattle.forms.specs.Findings.{form_findings}
use Rattle.facts.specs.Call.{Call}
use Rattle.facts.specs.Rules.{Rule, rules, polish_rules, all_rules, given, flags, polish_flags, all_flags}
use Rattle.rules.proofs.InOrder.{rules_in_order, polish_in_order}
use Rattle.verdict.specs.declared.Verdict.{Verdict}
use Rattle.verdict.specs.Codes.{rule_codes, form_codes, polish_codes, codes, rule_count, code_count}
use Rattle.verdict.specs.Verdict.{bit, codes_found, verdict_of}
use Rattle.verdict.specs.Findings.{over}
use Rattle.verdict.specs.Counted.{flags_set, times}
use Rattle.verdict.proofs.ListLaws.{length_pick, set_append}
use Rattle.verdict.proofs.Promises.{code_count_lem, found_once, found_known}
use Rattle.judge.specs.Refusal.{clean}
use Rattle.judge.specs.Outcome.{Outcome, judged_outcome, outcome, Judged}
use Rattle.judge.proofs.FlagLaws.{flag_count}
use Rattle.conditions.specs.Condition2.{listed, malformed}
use Rattle.conditions.proofs.LineLaws.{bit_none, none_found}

module _ {A : Type 0} where
  -- at which place an element stands
  abbrev place : {x : A} {xs : List A} → Among x xs → ℕ
  place (here e) = 0
  place (there m) = suc (place m)

  place_within : {x : A} {xs : List A} (m : Among x xs) → place m < length xs
  place_within (here e) = omega arith
  place_within (there m) = omega (arith, place_within m)

  mapped_at : {B : Type 0} (f : A → B) (d : B) {x : A} {xs : List A} (m : Among x xs) → get_or (map f xs) (place m) d ≡ f x
  mapped_at f d (here e) = ap f (sym e)
  mapped_at f d (there m) = mapped_at f d m

  -- a number that is none of those mapped to, and flags of which none is set
  none_mapped : (x : ℕ) (f : A → ℕ) (xs : List A) → ((a : A) → Among a xs → x ≡ f a → ⊥) → times x (map f xs) ≡ 0
  unfolding times
  none_mapped x f [] h = refl
  none_mapped x f (a ∷ xs) h = rw (ne_eqb x (f a) (h a (here refl))) (omega (arith, none_mapped x f xs (λ b m. h b (there m))))

  none_set : (f : A → Bool) (xs : List A) → ((a : A) → Among a xs → f a ≡ false) → flags_set (map f xs) ≡ 0
  unfolding flags_set
  none_set f [] h = refl
  none_set f (a ∷ xs) h = rw (h a (here refl)) (omega (arith, none_set f xs (λ b m. h b (there m))))

times_append : (x : ℕ) (xs ys : List ℕ) → times x (xs ++ ys) ≡ times x xs + times x ys
unfolding times
times_append x [] ys = omega arith
times_append x (y ∷ xs) ys = omega (arith, times_append x xs ys)

-- an element of two lists is of one of them
either_list : {A : Type 0} {x : A} (xs ys : List A) → Among x (xs ++ ys) → Among x xs ⊎ Among x ys
either_list [] ys m = inr m
either_list (a ∷ xs) ys (here e) = inl (here e)
either_list (a ∷ xs) ys (there m) = ⊎_elim (λ n. inl (there n)) inr (either_list xs ys m)

-- the numbers that follow one another
among_counted : (k n f : ℕ) → k ≤ f → f < k + n → Among f (count_from k n)
among_counted k zero f h l = absurd (omega arith)
among_counted k (suc n) f h l =
    by_test (leb f k)
    (λ t. let e : f ≡ k = omega (arith, leb-true f k t) in here e)
    (λ t. let past : suc k ≤ f = omega (arith, leb-false f k t) in there (among_counted (suc k) n f past (omega arith)))

counted_among : (k n f : ℕ) → Among f (count_from k n) → (k ≤ f) × (f < k + n)
counted_among k zero f x = elim x [ ]
counted_among k (suc n) f (here e) = (omega arith, omega arith)
counted_among k (suc n) f (there m) = let (least, most) = counted_among (suc k) n f m in (omega arith, omega arith)

-- the table of codes: the rules' own, then 1000 + f for each cell, then those for Polish identifiers
form_codes_lem : form_codes ≡ map (λ f. 1000 + f) (count_from 1 65)
unfolding form_codes
form_codes_lem = refl

abbrev code_of : Rule → ℕ
code_of r = r.code

module _ (c : Call) where
  -- a code whose flag stands at its place
  once_at : (i : ℕ) → i < code_count → {code : ℕ} {flag : Bool} → get_or codes i 0 ≡ code → get_or (all_flags c) i false ≡ flag
      → times code (codes_found (all_flags c)) ≡ bit flag
  once_at i h code_at flag_at =
      ap (λ n. times n (codes_found (all_flags c))) (sym code_at) ∙ found_once (all_flags c) (flag_count c) i h ∙ ap bit flag_at

  base_once : (r : Rule) → Among r rules → times r.code (codes_found (all_flags c)) ≡ bit (given c r)
  unfolding codes all_flags flags
  base_once r m =
      let within : place m < rule_count = place_within m in
      once_at (place m) (omega arith)
      (ap (λ (t : List ℕ). get_or (t ++ (form_codes ++ polish_codes)) (place m) 0) (sym rules_in_order)
      ∙ get_or-append (map code_of rules) (form_codes ++ polish_codes) 0 (place m) within
      ∙ mapped_at code_of 0 m)
      (get_or-append (map (given c) rules) (form_findings c.line ++ polish_flags c) false (place m) within ∙ mapped_at (given c) false m)

  pub form_once : (f : ℕ) → 1 ≤ f → f ≤ 65 → times (1000 + f) (codes_found (all_flags c)) ≡ bit (malformed c f)
  unfolding codes rule_codes all_flags flags form_findings
  form_once f h k =
      let m : Among f (count_from 1 65) = among_counted 1 65 f h (omega arith) in
      let within : place m < 65 = place_within m in
      once_at (rule_count + place m) (omega arith)
      (get_or-append-add rule_codes (form_codes ++ polish_codes) (place m) 0
      ∙ ap (λ (t : List ℕ). get_or (t ++ polish_codes) (place m) 0) form_codes_lem
      ∙ get_or-append (map (λ g. 1000 + g) (count_from 1 65)) polish_codes 0 (place m) within
      ∙ mapped_at (λ g. 1000 + g) 0 m)
      (get_or-append-add (map (given c) rules) (form_findings c.line ++ polish_flags c) (place m) false
      ∙ get_or-append (form_findings c.line) (polish_flags c) false (place m) within
      ∙ mapped_at (malformed c) false m)

  polish_once : (r : Rule) → Among r polish_rules → times r.code (codes_found (all_flags c)) ≡ bit (given c r)
  unfolding codes rule_codes form_codes all_flags flags form_findings polish_flags
  polish_once r m =
      let within : place m < 3 = place_within m in
      once_at (rule_count + (65 + place m)) (omega arith)
      (get_or-append-add rule_codes (form_codes ++ polish_codes) (65 + place m) 0
      ∙ get_or-append-add form_codes polish_codes (place m) 0
      ∙ ap (λ (t : List ℕ). get_or t (place m) 0) (sym polish_in_order)
      ∙ mapped_at code_of 0 m)
      (get_or-append-add (map (given c) rules) (form_findings c.line ++ polish_flags c) (65 + place m) false
      ∙ get_or-append-add (form_findings c.line) (polish_flags c) (place m) false
      ∙ mapped_at (given c) false m)

  pub rule_once : (r : Rule) → Among r all_rules → times r.code (codes_found (all_flags c)) ≡ bit (given c r)
  rule_once r m = ⊎_elim (base_once r) (polish_once r) (either_list rules polish_rules m)

  pub none_other :
      (x : ℕ) → ((r : Rule) → Among r all_rules → x ≡ r.code → ⊥) → ((f : ℕ) → 1 ≤ f → f ≤ 65 → x ≡ 1000 + f → ⊥)
      → times x (codes_found (all_flags c)) ≡ 0
  unfolding codes
  none_other x no-rule no-form =
      let of-rules : times x (rule_codes ++ polish_codes) ≡ 0 =
      (λ i. times x (sym rules_in_order i ++ sym polish_in_order i)) ∙ none_mapped x code_of all_rules no-rule
      in
      let of-forms : times x form_codes ≡ 0 =
      ap (times x) form_codes_lem
      ∙ none_mapped x (λ f. 1000 + f) (count_from 1 65) (λ f m. let (least, most) = counted_among 1 65 f m in no-form f least (omega arith))
      in
      found_known (all_flags c) (flag_count c) x
      (omega (arith, times_append x rule_codes polish_codes, times_append x rule_codes (form_codes ++ polish_codes), times_append x form_codes polish_codes))

  -- nothing is found where no rule is violated and no cell malformed, and the other way round
  pub nothing_found :
      ((r : Rule) → Among r all_rules → given c r ≡ false) → ((f : ℕ) → 1 ≤ f → f ≤ 65 → malformed c f ≡ false)
      → length (codes_found (all_flags c)) ≡ 0
  unfolding all_flags flags form_findings polish_flags
  nothing_found no-rule no-form =
      let of-rules : flags_set (flags c ++ polish_flags c) ≡ 0 = none_set (given c) all_rules no-rule in
      let of-forms : flags_set (form_findings c.line) ≡ 0 =
      none_set (malformed c) (count_from 1 65) (λ f m. let (least, most) = counted_among 1 65 f m in no-form f least (omega arith))
      in
      length_pick codes (all_flags c) (code_count_lem ∙ sym (flag_count c))
      ∙ omega (arith, set_append (flags c) (polish_flags c), set_append (flags c) (form_findings c.line ++ polish_flags c), set_append (form_findings c.line) (polish_flags c))

  pub clean_rule : clean c ≡ true → (r : Rule) → Among r all_rules → given c r ≡ false
  unfolding times
  clean_rule e r m = bit_none (given c r) (sym (rule_once r m) ∙ ap (times r.code) (none_found c e))

-- what a call lists that is judged: the codes found
module _ (call : Call) {before findings left : List ℕ} {verdict : Verdict} (j : Judged (outcome call (length before)) before verdict findings left)
    (o : outcome call (length before) ≡ judged_outcome call) where
  pub says_found : verdict ≡ verdict_of (all_flags call)
  says_found = j.says ∙ ap (λ (x : Outcome). x.verdict) o

  pub lists_found : findings ≡ over (codes_found (all_flags call)) before
  lists_found = j.lists ∙ ap (λ (x : Outcome). over x.listed before) o

  pub count_found : verdict.count ≡ length (codes_found (all_flags call))
  unfolding verdict_of
  count_found = ap (λ (v : Verdict). v.count) says_found

  pub listed_found : listed verdict findings ≡ codes_found (all_flags call)
  unfolding verdict_of
  listed_found =
      let found : List ℕ = codes_found (all_flags call) in
      (λ i. listed (says_found i) (lists_found i)) ∙ take-append_seam found (drop (length found) before)
