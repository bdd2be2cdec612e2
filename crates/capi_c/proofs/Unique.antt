-- The contract of an exported call determines its answer, and every byte and record that it may write: it is that of the call in capi.
use mathlib.Core.Path.{◌≡◌}
use Prim.Native.Nat.{ℕ}
use seplogic.Ra.Ura.{Ura}
use base.Logic.{SProp, ent, sep}
use prog.Memory.{Memory}
use prog.Routine.{Routine}
use types.Logic.{Logic}
use contract.Lifetimes.{Lfts}
use contract.Monad.{Fun, fact}
use Rattle.verdict.specs.declared.Verdict.{Verdict}
use Rattle.judge.proofs.Contract.{register_after, findings_after}
use Rattle.summary.specs.declared.Noted.{Noted}
use Rattle.capi.proofs.SameContract.{HostArguments, HostReturned, left, ConvertArguments, ConvertReturned, NoteArguments, NoteReturned, records_after, common_after}
use Rattle.capi.proofs.Unique as capi
use Rattle.capi_c.specs.contracts.boanhetri_note as note
use Rattle.capi_c.proofs.boanhetri_convert.Reads as convert_reads
use Rattle.capi_c.proofs.boanhetri_judge.Reads as reads

pub boanhetri_judge_determined :
    (κs : Lfts 8) (a : HostArguments κs) (x y : Verdict) (s t : HostReturned κs) → reads.Post κs a x s → reads.Post κs a y t
    → (x ≡ y) × (register_after κs (left κs s) ≡ register_after κs (left κs t)) × (findings_after κs (left κs s) ≡ findings_after κs (left κs t))
boanhetri_judge_determined = capi.boanhetri_judge_determined

pub boanhetri_convert_determined :
    (κs : Lfts 2) (a : ConvertArguments κs) (x y : ℕ) (s t : ConvertReturned κs) → convert_reads.Post κs a x s → convert_reads.Post κs a y t
    → (x ≡ y) × (s.1.0.now ≡ t.1.0.now)
boanhetri_convert_determined = capi.boanhetri_convert_determined

-- in the program logic, where its contract stands
pub boanhetri_note_determined :
    (M : Type 1) (𝓤 : Ura M) (𝓛 : Logic 𝓤) (mem : Memory → SProp 𝓤) (run : Routine → Fun 𝓤) (κs : Lfts 3) (a : NoteArguments κs)
    (x y : Noted) (s t : NoteReturned κs)
    → ent 𝓤 (sep 𝓤 ((note.clauses 𝓛 mem run κs a).ensures tt x s) ((note.clauses 𝓛 mem run κs a).ensures tt y t))
    (fact 𝓤 ((x ≡ y) × (records_after κs s ≡ records_after κs t) × (common_after κs s ≡ common_after κs t)))
boanhetri_note_determined = capi.boanhetri_note_determined
