-- Items in a basket are read exactly where the grammar writes them.
use mathlib.Core.Path.{◌≡◌, ◌∙◌, refl, ap, subst}
use mathlib.Core.Bool.{Bool, true, false, cond, ◌&&◌}
use mathlib.Core.List.{List, [], ◌∷◌, ◌++◌, append_assoc}
use Prim.Native.Nat.{ℕ, zero, suc, ◌+◌, ◌≤◌}
use native.Mathlib.Omega.{arith}
use borrow.Author.Tests.{leb-true, le-leb}
use lib.Dec.{leb}
use lib.ListN.{length, drop, length-append}
use lib.Seq.{drop-append_seam}
use Rattle.text.specs.Ascii.{ascii}
use Rattle.text.proofs.Bools.{and_left, and_right, by_test}
use Rattle.baskets.specs.declared.items.Holds.{Holds}
use Rattle.baskets.specs.Items.{Item, Part, in_front, spaces_in, item_in, items_in, basket_in, stands, joined, ended, behind, none, after_comma}
use Rattle.baskets.specs.Grammar.{spaces, index_of, item_text, ItemsWritten, last, more}
use Rattle.baskets.proofs.FrontLaws.{clash, in_front_both, spaces_length, spaces_count, spaces_passed, stands_first, byte_and_spaces}
use Rattle.baskets.proofs.GrammarItems.{ItemFound, item_begins, item_accepted, item_only}

-- what is good, and takes all of a text
abbrev pub all_good : List ℕ → List (List ℕ) → Part
all_good text values = record { good = true; values = values; size = length text }

comma_read : (gap : ℕ) (text : List ℕ) → spaces_in text ≡ 0 → after_comma (44 ∷ (spaces gap ++ text)) ≡ suc gap
comma_read gap text begins = rw (spaces_count gap text begins) (omega arith)

-- items that are written, in front of any rest
module _ {holds : Holds} where
  items_begin : {most least : ℕ} {text : List ℕ} {values : List (List ℕ)} → ItemsWritten holds most least text values → (rest : List ℕ) → spaces_in (text ++ rest) ≡ 0
  items_begin (last i h) rest = rw (append_assoc (item_text i) (ascii "}") rest) (item_begins i _)
  items_begin (more {text = text} i gap h w) rest = rw (append_assoc (item_text i) (44 ∷ (spaces gap ++ text)) rest) (item_begins i _)

  items_accepted : {most least : ℕ} {text : List ℕ} {values : List (List ℕ)} → ItemsWritten holds most least text values
      → (rest : List ℕ) → items_in holds most least (text ++ rest) ≡ all_good text values
  unfolding items_in in_front
  items_accepted (last {least = least} i h) rest =
      rw (append_assoc (item_text i) (ascii "}") rest, item_accepted i (125 ∷ rest) refl, le-leb least (index_of i) h, drop-append_seam (item_text i) (125 ∷ rest), length-append (item_text i) (ascii "}"))
  items_accepted (more {least = least} {text = text} {values = values} i gap h w) rest =
      let comma : List ℕ = 44 ∷ (spaces gap ++ (text ++ rest)) in
      let parts : (item_text i ++ (44 ∷ (spaces gap ++ text))) ++ rest ≡ item_text i ++ comma = append_assoc (item_text i) (44 ∷ (spaces gap ++ text)) rest ∙ ap (λ (t : List ℕ). item_text i ++ 44 ∷ t) (append_assoc (spaces gap) text rest) in
      let long : length (item_text i) + (suc gap + length text) ≡ length (item_text i ++ 44 ∷ (spaces gap ++ text)) =
      omega (arith, length-append (item_text i) (44 ∷ (spaces gap ++ text)), length-append (spaces gap) text, spaces_length gap) in
      rw (
        parts,
        item_accepted i comma refl,
        le-leb least (index_of i) h,
        drop-append_seam (item_text i) comma,
        comma_read gap (text ++ rest) (items_begin w rest),
        spaces_passed gap (text ++ rest),
        items_accepted w rest,
      )
      (λ j. record { good = true; values = i.value ∷ values; size = long j })

-- a text in front that the grammar writes, with its values
pub record Found (Written : List ℕ → List (List ℕ) → Type 0) (s : List ℕ) (read : Part) : Type 0 where
  pub text : List ℕ
  pub written : Written text read.values
  pub text_is : s ≡ text ++ drop read.size s

-- an item, and what ends it
module _ (most : ℕ) {holds : Holds} {least : ℕ} {s : List ℕ} {i : Item} (item : ItemFound holds s i) (rises : least ≤ i.index) where
  abbrev behind_item : List ℕ
  behind_item = drop i.size s

  rises_too : least ≤ index_of item.words
  rises_too = rw item.index_is rises

  last_found : stands "}" 0 behind_item ≡ true → Found (ItemsWritten holds (suc most) least) s (joined i (record { good = true; values = []; size = 1 }))
  last_found e =
      record {
        text = item_text item.words ++ ascii "}";
        written = subst (λ (v : List ℕ). ItemsWritten holds (suc most) least (item_text item.words ++ ascii "}") (v ∷ [])) item.value_is (last item.words rises_too);
        text_is = in_front_both (item_text item.words) (ascii "}") i.size 1 item.text_is (stands_first 124 behind_item e);
      }

  abbrev gap : ℕ
  gap = spaces_in (drop 1 behind_item)

  more_found : {next : Part} → stands "," 0 behind_item ≡ true → Found (ItemsWritten holds most (suc i.index)) (drop (after_comma behind_item) behind_item) next
      → Found (ItemsWritten holds (suc most) least) s (joined i (behind (after_comma behind_item) next))
  more_found {next} e found =
      record {
        text = item_text item.words ++ (ascii "," ++ (spaces gap ++ found.text));
        written =
            subst (λ (v : List ℕ). ItemsWritten holds (suc most) least (item_text item.words ++ (ascii "," ++ (spaces gap ++ found.text))) (v ∷ next.values)) item.value_is
            (more item.words gap rises_too (rw item.index_is found.written));
        text_is =
            in_front_both (item_text item.words) (ascii "," ++ (spaces gap ++ found.text)) i.size (after_comma behind_item + next.size) item.text_is
            (in_front_both (44 ∷ spaces gap) found.text (after_comma behind_item) next.size (byte_and_spaces behind_item 0 43 e) found.text_is);
      }

  ended_found : (next : Part) → (next.good ≡ true → Found (ItemsWritten holds most (suc i.index)) (drop (after_comma behind_item) behind_item) next) → (ended behind_item next).good ≡ true
      → Found (ItemsWritten holds (suc most) least) s (joined i (ended behind_item next))
  ended_found next on e = go (stands "}" 0 behind_item) (stands "," 0 behind_item) refl refl e
    where
      go : (brace comma : Bool) → stands "}" 0 behind_item ≡ brace → stands "," 0 behind_item ≡ comma
          → (cond brace (record { good = true; values = []; size = 1 }) (cond comma (behind (after_comma behind_item) next) none)).good ≡ true
          → Found (ItemsWritten holds (suc most) least) s (joined i (cond brace (record { good = true; values = []; size = 1 }) (cond comma (behind (after_comma behind_item) next) none)))
      go true comma f g h = last_found f
      go false true f g h = more_found g (on h)
      go false false f g h = clash h refl

-- items that are read
items_only : (holds : Holds) (most least : ℕ) (s : List ℕ) → (items_in holds most least s).good ≡ true → Found (ItemsWritten holds most least) s (items_in holds most least s)
unfolding items_in
items_only holds zero least s e = clash e refl
items_only holds (suc most) least s e =
    let good : Bool = (item_in holds s).good in
    let rises : Bool = leb least (item_in holds s).index in
    by_test (good && rises)
    (λ f. rw f
    (ended_found most (item_only holds s (and_left good rises f)) (leb-true least (item_in holds s).index (and_right good rises f)) _ (items_only holds most _ _) (rw f at e)))
    (λ f. clash e (rw f))

-- braces around them
pub basket_accepted : {holds : Holds} {text : List ℕ} {values : List (List ℕ)} → ItemsWritten holds 16 0 text values → (rest : List ℕ)
    → basket_in holds (123 ∷ (text ++ rest)) ≡ all_good (123 ∷ text) values
unfolding basket_in
basket_accepted {text} {values} w rest =
    let long : 1 + length text ≡ suc (length text) = omega arith in
    rw (items_accepted w rest) (λ j. record { good = true; values = values; size = long j })

-- a basket in front, behind a sign or none
pub record BasketFound (holds : Holds) (sign s : List ℕ) (read : Part) : Type 0 where
  pub items : List ℕ
  pub written : ItemsWritten holds 16 0 items read.values
  pub text_is : s ≡ (sign ++ (ascii "{" ++ items)) ++ drop read.size s

pub basket_only : (holds : Holds) (s : List ℕ) → (basket_in holds s).good ≡ true → BasketFound holds [] s (basket_in holds s)
unfolding basket_in
basket_only holds s e = by_test (stands "{" 0 s) (λ f. rw f (found f (items_only holds 16 0 (drop 1 s) (rw f at e)))) (λ f. clash e (rw f))
  where
    found : stands "{" 0 s ≡ true → Found (ItemsWritten holds 16 0) (drop 1 s) (items_in holds 16 0 (drop 1 s)) → BasketFound holds [] s (behind 1 (items_in holds 16 0 (drop 1 s)))
    found f p = record { items = p.text; written = p.written; text_is = in_front_both (ascii "{") p.text 1 (items_in holds 16 0 (drop 1 s)).size (stands_first 122 s f) p.text_is }
