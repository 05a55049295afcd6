-- What is answered to texts whose first fault is to be explained (docs/FORMATS.md, "Standard output of
-- `explain`"). Of the words of an explanation nothing is said.
use Rattle.std.specs.Prelude.{◌≡◌, ◌++◌, ◌⊎◌, ℕ, Bool, true, false, List, Option, Some, None, Err, codes}
use Rattle.std.specs.Borrow.{Bor}
use Rattle.command_line.specs.declared.explain.ExplainJob.{ExplainJob}
use Rattle.runner.specs.Reading.{AreEventsIn, IsProgramIn, IsScriptIn}
use Rattle.world_model.specs.EventsText.Events.{events_of}
use Rattle.world_model.specs.declared.events_text.fault.EventsFaultKind.{EventsFaultKind}
use Rattle.rank_text.specs.Checker.Faults.{IsFaultOf}
use Rattle.rank_text.specs.declared.checker.fault.FaultKind.{FaultKind}
use Rattle.rank_language.specs.Program.{ProgramValue}
use Rattle.rank_text.specs.Scripts.Script.{first_fault}
use Rattle.rank_text.specs.declared.script.fault.ScriptFault.{ScriptFault}
use Rattle.rank_text.specs.declared.script.line.ScriptLine.{ScriptLine}
use Rattle.bare_world.specs.declared.event.WorldEvent.{WorldEvent}

-- the file holds a program's text with a fault
pub record HasFaultyProgram (holds : List ℕ → Type 0) : Type 0 where
  pub text : List ℕ
  pub held : holds text
  pub line : ℕ
  pub kind : FaultKind
  pub first : IsFaultOf text line kind

-- the file holds a script's text with a fault
pub record HasFaultyScript (holds : List ℕ → Type 0) (ranks : ℕ) : Type 0 where
  pub text : List ℕ
  pub held : holds text
  pub fault : ScriptFault
  pub first : first_fault ranks text ≡ Some fault

-- the file holds a text of events with a fault
pub record HasFaultyEvents (holds : List ℕ → Type 0) : Type 0 where
  pub text : List ℕ
  pub held : holds text
  pub line : ℕ
  pub kind : EventsFaultKind
  pub first : events_of text ≡ Err (line, kind)

-- the file holds a program's text, with a fault or with none
abbrev pub HoldsProgram : (List ℕ → Type 0) → Bool → Type 0
HoldsProgram holds true = HasFaultyProgram holds
HoldsProgram holds false = (program : ProgramValue) × IsProgramIn holds program

-- so it is of a script for so many ranks
abbrev pub HoldsScriptIn : (List ℕ → Type 0) → ℕ → Bool → Type 0
HoldsScriptIn holds ranks true = HasFaultyScript holds ranks
HoldsScriptIn holds ranks false = (script : List ScriptLine) × IsScriptIn holds ranks script

-- so it is of events
abbrev pub HoldsEventsIn : (List ℕ → Type 0) → Bool → Type 0
HoldsEventsIn holds true = HasFaultyEvents holds
HoldsEventsIn holds false = (events : List WorldEvent) × AreEventsIn holds events

-- so it is of the script of this name; where none is named, there is no fault
abbrev pub HoldsScript : (List ℕ → List ℕ → Type 0) → ℕ → Option (Bor (List ℕ)) → Bool → Type 0
HoldsScript holds ranks None faulty = faulty ≡ false
HoldsScript holds ranks (Some name) faulty = HoldsScriptIn (holds name.now) ranks faulty

-- so it is of the events of this name
abbrev pub HoldsEvents : (List ℕ → List ℕ → Type 0) → Option (Bor (List ℕ)) → Bool → Type 0
HoldsEvents holds None faulty = faulty ≡ false
HoldsEvents holds (Some name) faulty = HoldsEventsIn (holds name.now) faulty

-- A text that the job names has a fault, and none has that is read before it.
pub data HasFault (holds : List ℕ → List ℕ → Type 0) (job : ExplainJob) : Type 0 where
  in_program : HoldsProgram (holds job.program.now) true → HasFault holds job
  in_script : HoldsProgram (holds job.program.now) false → HoldsScript holds job.ranks job.script true → HasFault holds job
  in_events : HoldsProgram (holds job.program.now) false → HoldsScript holds job.ranks job.script false → HoldsEvents holds job.events true
      → HasFault holds job

-- the status is 0, and what is printed begins with a line that says that there is no fault
pub record SaysNone (out : List ℕ) (status : ℕ) : Type 0 where
  pub unmet : List ℕ
  pub whole : out ≡ codes "no fault\n" ++ unmet
  pub done : status ≡ 0

-- No text that the job names has a fault, and the answer says so.
pub record HasNoFault (holds : List ℕ → List ℕ → Type 0) (job : ExplainJob) (out : List ℕ) (status : ℕ) : Type 0 where
  pub program : HoldsProgram (holds job.program.now) false
  pub script : HoldsScript holds job.ranks job.script false
  pub events : HoldsEvents holds job.events false
  pub said : SaysNone out status

-- What `explain` answers: a text has a fault, with status 2, or none has.
abbrev pub IsExplainAnswer : (List ℕ → List ℕ → Type 0) → ExplainJob → List ℕ → ℕ → Type 0
IsExplainAnswer holds job out status = (HasFault holds job × (status ≡ 2)) ⊎ HasNoFault holds job out status
