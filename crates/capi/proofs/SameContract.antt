-- The contracts of the exported functions are those of `judge` and of `convert`, over the same arguments in the same order; the number that C
-- hands in for Polish identifiers asks for them where it is not 0. The contract of `boanhetri_note` is, in the program logic, `Noting` of what
-- was lent and handed in, and asks for nothing.
use mathlib.Core.Path.{◌≡◌, refl}
use mathlib.Core.Bool.{not}
use mathlib.Core.List.{List}
use Prim.Native.Nat.{ℕ}
use seplogic.Ra.Ura.{Ura}
use base.Logic.{SProp, emp}
use prog.Memory.{Memory}
use prog.Routine.{Routine}
use types.Logic.{Logic}
use contract.Lifetimes.{Lfts}
use contract.Monad.{Fun, fact}
use denote.Triple.Entry.{Args}
use denote.Triple.Clauses.{AtExit}
use borrow.Fn.Kinds.{Dens, ended_of}
use lib.Dec.{eqb}
use Rattle.register.proofs.convert.Reads as convert
use Rattle.verdict.specs.declared.Verdict.{Verdict}
use Rattle.judge.proofs.Contract.{Arguments, Returned}
use Rattle.judge.proofs.judge.Reads as judge
use Rattle.summary.specs.declared.Record.{Record}
use Rattle.summary.specs.declared.Noted.{Noted}
use Rattle.summary.specs.Judged.{line_of}
use Rattle.summary.specs.Noting.{After, note_of, Noting}
use Rattle.capi.proofs.boanhetri_convert.Kinds as convert_kinds
use Rattle.capi.proofs.boanhetri_convert.Reads as boanhetri_convert
use Rattle.capi.proofs.boanhetri_judge.Kinds as kinds
use Rattle.capi.proofs.boanhetri_judge.Reads as boanhetri
use Rattle.capi.specs.contracts.boanhetri_note as note

module _ (κs : Lfts 8) where
  abbrev pub HostArguments : Type 0
  HostArguments = Dens κs kinds.ps

  abbrev pub HostReturned : Type 0
  HostReturned = AtExit (ended_of 8 kinds.ps kinds.r) κs

  -- the arguments of `judge`, and they when it returns
  abbrev pub passed : HostArguments → Arguments κs
  passed (line, (lei, (cty, (ccy, (ven, (ins, (register, (day, (micro, (polish, findings)))))))))) =
      (line, (lei, (cty, (ccy, (ven, (ins, (register, (day, (micro, (not (eqb polish 0), findings))))))))))

  abbrev pub left : HostReturned → Returned κs
  left (line, (lei, (cty, (ccy, (ven, (ins, (register, (day, (micro, (polish, findings)))))))))) =
      (line, (lei, (cty, (ccy, (ven, (ins, (register, (day, (micro, (not (eqb polish 0), findings))))))))))

  module _ (a : HostArguments) where
    -- what is asked for
    pub same_asked : boanhetri.Asked κs a ≡ judge.Asked κs (passed a)
    same_asked = refl

    -- what the code has to show, and what a caller learns
    pub same_contract : (x : Verdict) (s : HostReturned) → boanhetri.Post κs a x s ≡ judge.Post κs (passed a) x (left s)
    same_contract x s = refl

    pub same_learnt : (x : Verdict) (s : HostReturned) → boanhetri.Learnt κs a x s ≡ judge.Learnt κs (passed a) x (left s)
    same_learnt x s = refl

module _ (κs : Lfts 2) where
  abbrev pub ConvertArguments : Type 0
  ConvertArguments = Dens κs convert_kinds.ps

  abbrev pub ConvertReturned : Type 0
  ConvertReturned = AtExit (ended_of 2 convert_kinds.ps convert_kinds.r) κs

  module _ (a : ConvertArguments) where
    pub convert_asked : boanhetri_convert.Asked κs a ≡ convert.Asked κs a
    convert_asked = refl

    pub convert_contract : (x : ℕ) (s : ConvertReturned) → boanhetri_convert.Post κs a x s ≡ convert.Post κs a x s
    convert_contract x s = refl

    pub convert_learnt : (x : ℕ) (s : ConvertReturned) → boanhetri_convert.Learnt κs a x s ≡ convert.Learnt κs a x s
    convert_learnt x s = refl

-- what is lent to `boanhetri_note` and handed in: records, common record, line, verdict; and what it leaves
module _ (κs : Lfts 3) where
  abbrev pub NoteArguments : Type 0
  NoteArguments = Args (note.ended).signature κs

  abbrev pub NoteReturned : Type 0
  NoteReturned = AtExit note.ended κs

  abbrev pub note_after : NoteArguments → After
  note_after a = note_of a.0.now a.1.0.now (line_of a.1.1.0.now a.1.1.1.0)

  abbrev pub records_after : NoteReturned → List Record
  records_after s = s.0.now

  abbrev pub common_after : NoteReturned → Record
  common_after s = s.1.0.now

  module _ {M : Type 1} {𝓤 : Ura M} (𝓛 : Logic 𝓤) (mem : Memory → SProp 𝓤) (run : Routine → Fun 𝓤) (a : NoteArguments) where
    pub note_contract : (x : Noted) (s : NoteReturned)
        → (note.clauses 𝓛 mem run κs a).ensures tt x s ≡ fact 𝓤 (Noting (note_after a) x (records_after s) (common_after s))
    note_contract x s = refl

    pub note_asks_nothing : (note.clauses 𝓛 mem run κs a).requires tt ≡ emp 𝓤
    note_asks_nothing = refl
