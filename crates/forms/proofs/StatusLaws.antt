-- A line has a status exactly if cell 1 is its word, and is neither exactly if it is none of the two.
use mathlib.Core.Path.{◌≡◌, refl, sym}
use mathlib.Core.Bool.{Bool, true, false, cond, true≢false}
use mathlib.Core.List.{List, [], ◌∷◌}
use Prim.Native.Nat.{ℕ}
use lib.Dec.{eqb}
use borrow.Author.Tests.{eqb-true}
use Rattle.text.specs.Word.{same}
use Rattle.text.proofs.Bools.{and_left, by_test}
use Rattle.forms.specs.declared.findings.Status.{Status}
use Rattle.forms.specs.declared.findings.Status.TheVariants.{New, Cancellation, Neither}
use Rattle.forms.specs.Forms.{status_word}
use Rattle.forms.specs.Findings.{status_of}

-- what is NEW is not CXL
pub not_both : (s : List ℕ) → same (status_word New) s ≡ true → same (status_word Cancellation) s ≡ false
unfolding same
not_both [] e = absurd (true≢false (sym e))
not_both (b ∷ s) e =
    let n : b ≡ 78 = eqb-true b 78 (and_left (eqb b 78) _ e) in
    rw n

abbrev pub is_new : Status → Bool
is_new New = true
is_new Cancellation = false
is_new Neither = false

abbrev pub is_cxl : Status → Bool
is_cxl New = false
is_cxl Cancellation = true
is_cxl Neither = false

pub new_exactly : (s : List ℕ) → is_new (status_of s) ≡ same (status_word New) s
unfolding status_of
new_exactly s = go (same (status_word New) s) (same (status_word Cancellation) s)
  where
    go : (new cxl : Bool) → is_new (cond new New (cond cxl Cancellation Neither)) ≡ new
    go true cxl = refl
    go false true = refl
    go false false = refl

pub cxl_exactly : (s : List ℕ) → is_cxl (status_of s) ≡ same (status_word Cancellation) s
unfolding status_of
cxl_exactly s = by_test (same (status_word New) s) (λ e. rw (e, not_both s e)) (λ e. rw e (go (same (status_word Cancellation) s)))
  where
    go : (cxl : Bool) → is_cxl (cond cxl Cancellation Neither) ≡ cxl
    go true = refl
    go false = refl
