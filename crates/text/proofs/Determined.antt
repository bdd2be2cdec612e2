-- What it is that a contract determines a function's answer. Each crate states it of its public functions, over the contract itself.
use mathlib.Core.Path.{◌≡◌, ◌∙◌, sym}
use mathlib.Core.List.{List}
use Prim.Native.Nat.{ℕ}
use contract.Lifetimes.{Lfts}
use seplogic.Ra.Ura.{Ura}
use base.Logic.{SProp, ent, sep, fst∗, snd∗}
use prog.Memory.{Memory}
use prog.Routine.{Routine}
use types.Logic.{Logic}
use contract.Monad.{Fun, fact, fact_i, fact_use}
use denote.Triple.Entry.{Args, Res}
use denote.Triple.Clauses.{Ended, Clauses, AtExit}
use borrow.Fn.Kinds.{ParamKind, ResultKind, Dens, res_t, ended_of}

module _ {n : ℕ} (ps : List (ParamKind n)) (r : ResultKind n) where
  -- what a contract says of the arguments, the result and the parameters at exit
  abbrev pub Contract : Type 1
  Contract = (κs : Lfts n) → Dens κs ps → (res_t r κs).Denot → AtExit (ended_of n ps r) κs → Type 0

  -- any two results that the contract permits for the same arguments look the same
  abbrev pub Seen : {B : Lfts n → Type 0} → ((κs : Lfts n) → (res_t r κs).Denot → B κs) → Contract → Type 0
  Seen see Post =
      (κs : Lfts n) (a : Dens κs ps) (x y : (res_t r κs).Denot) (s t : AtExit (ended_of n ps r) κs)
      → Post κs a x s → Post κs a y t → see κs x ≡ see κs y

  -- any two results that the contract permits for the same arguments are the same
  abbrev pub Determined : Contract → Type 0
  Determined Post = Seen (λ κs x. x) Post

  -- whatever the contract permits for the same arguments leaves the same in what was lent
  abbrev pub Left : {B : Lfts n → Type 0} → ((κs : Lfts n) → AtExit (ended_of n ps r) κs → B κs) → Contract → Type 0
  Left see Post =
      (κs : Lfts n) (a : Dens κs ps) (x y : (res_t r κs).Denot) (s t : AtExit (ended_of n ps r) κs)
      → Post κs a x s → Post κs a y t → see κs s ≡ see κs t

-- two results of one equation
pub same_both : {A : Type 0} {x y z : A} → x ≡ z → y ≡ z → x ≡ y
same_both p q = p ∙ sym q

-- A function that is proved by hand has its contract in the program logic alone. There the same is said so: whoever is told of two results, for the
-- same arguments, what the contract ensures, knows that they look the same
abbrev pub Written : Ended → Type 2
Written T = (M : Type 1) (𝓤 : Ura M) (𝓛 : Logic 𝓤) → (Memory → SProp 𝓤) → (Routine → Fun 𝓤) → Clauses 𝓤 T

module _ (T : Ended) where
  abbrev pub SeenByHand : {B : Lfts T.signature.lifetimes → Type 0} → ((κs : Lfts T.signature.lifetimes) → Res T.signature κs → B κs) → Written T → Type 2
  SeenByHand see clauses =
      (M : Type 1) (𝓤 : Ura M) (𝓛 : Logic 𝓤) (mem : Memory → SProp 𝓤) (run : Routine → Fun 𝓤)
      (κs : Lfts T.signature.lifetimes) (a : Args T.signature κs) (g : (clauses M 𝓤 𝓛 mem run κs a).ghost)
      (x y : Res T.signature κs) (s t : AtExit T κs)
      → ent 𝓤 (sep 𝓤 ((clauses M 𝓤 𝓛 mem run κs a).ensures g x s) ((clauses M 𝓤 𝓛 mem run κs a).ensures g y t)) (fact 𝓤 (see κs x ≡ see κs y))

  abbrev pub DeterminedByHand : Written T → Type 2
  DeterminedByHand clauses = SeenByHand (λ κs x. x) clauses

-- from two facts a third
pub from_both : {M : Type 1} (𝓤 : Ura M) (p q r : Type 0) → (p → q → r) → ent 𝓤 (sep 𝓤 (fact 𝓤 p) (fact 𝓤 q)) (fact 𝓤 r)
from_both 𝓤 p q r f =
    fact_use 𝓤 p (fst∗ 𝓤 (fact 𝓤 p) (fact 𝓤 q)) (λ x. fact_use 𝓤 q (snd∗ 𝓤 (fact 𝓤 p) (fact 𝓤 q)) (λ y. fact_i 𝓤 r (sep 𝓤 (fact 𝓤 p) (fact 𝓤 q)) (f x y)))
