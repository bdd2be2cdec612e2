-- The contract of each exported function is that of the function of its name in capi, over the same arguments in the same order.
use mathlib.Core.Path.{◌≡◌, refl}
use Prim.Native.Nat.{ℕ}
use seplogic.Ra.Ura.{Ura}
use base.Logic.{SProp, emp}
use prog.Memory.{Memory}
use prog.Routine.{Routine}
use types.Logic.{Logic}
use contract.Lifetimes.{Lfts}
use contract.Monad.{Fun, fact}
use Rattle.verdict.specs.declared.Verdict.{Verdict}
use Rattle.summary.specs.declared.Noted.{Noted}
use Rattle.summary.specs.Noting.{Noting}
use Rattle.capi.proofs.SameContract.{HostArguments, HostReturned, ConvertArguments, ConvertReturned, NoteArguments, NoteReturned, note_after, records_after, common_after}
use Rattle.capi.proofs.boanhetri_convert.Reads as capi_convert
use Rattle.capi.proofs.boanhetri_judge.Reads as capi_judge
use Rattle.capi_c.specs.contracts.boanhetri_note as note
use Rattle.capi_c.proofs.boanhetri_convert.Reads as convert
use Rattle.capi_c.proofs.boanhetri_judge.Reads as judge

module _ (κs : Lfts 8) (a : HostArguments κs) where
  pub same_asked : judge.Asked κs a ≡ capi_judge.Asked κs a
  same_asked = refl

  pub same_contract : (x : Verdict) (s : HostReturned κs) → judge.Post κs a x s ≡ capi_judge.Post κs a x s
  same_contract x s = refl

  pub same_learnt : (x : Verdict) (s : HostReturned κs) → judge.Learnt κs a x s ≡ capi_judge.Learnt κs a x s
  same_learnt x s = refl

module _ (κs : Lfts 2) (a : ConvertArguments κs) where
  pub convert_asked : convert.Asked κs a ≡ capi_convert.Asked κs a
  convert_asked = refl

  pub convert_contract : (x : ℕ) (s : ConvertReturned κs) → convert.Post κs a x s ≡ capi_convert.Post κs a x s
  convert_contract x s = refl

  pub convert_learnt : (x : ℕ) (s : ConvertReturned κs) → convert.Learnt κs a x s ≡ capi_convert.Learnt κs a x s
  convert_learnt x s = refl

module _ (κs : Lfts 3) {M : Type 1} {𝓤 : Ura M} (𝓛 : Logic 𝓤) (mem : Memory → SProp 𝓤) (run : Routine → Fun 𝓤) (a : NoteArguments κs) where
  pub note_contract : (x : Noted) (s : NoteReturned κs)
      → (note.clauses 𝓛 mem run κs a).ensures tt x s ≡ fact 𝓤 (Noting (note_after κs a) x (records_after κs s) (common_after κs s))
  note_contract x s = refl

  pub note_asks_nothing : (note.clauses 𝓛 mem run κs a).requires tt ≡ emp 𝓤
  note_asks_nothing = refl
