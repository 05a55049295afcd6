-- What is said of a text that a file holds, and how that is an answer.
use Rattle.std.proofs.Common.{◌≡◌, ◌++◌, ℕ, Bool, true, false, List, Option, Some, None, Err, Ok, codes, inl, inr}
use Rattle.std.specs.Borrow.{Bor}
use Rattle.command_line.specs.declared.explain.ExplainJob.{ExplainJob}
use Rattle.world_model.specs.EventsText.Events.{events_of}
use Rattle.world_model.specs.declared.events_text.fault.EventsFaultKind.{EventsFaultKind}
use Rattle.rank_text.specs.Checker.Faults.{IsFaultOf}
use Rattle.rank_text.specs.declared.checker.fault.FaultKind.{FaultKind}
use Rattle.rank_language.specs.Correct.{IsProgramOf}
use Rattle.rank_language.specs.Program.{ProgramValue}
use Rattle.runner.specs.Explanations.{HasFault, SaysNone}
use Rattle.runner.specs.Explanations.{HoldsEvents, HoldsEventsIn, HoldsProgram, HoldsScript, HoldsScriptIn, IsExplainAnswer}
use Rattle.rank_text.specs.Scripts.Script.{first_fault, script_lines}
use Rattle.rank_text.specs.declared.script.fault.ScriptFault.{ScriptFault}
use Rattle.rank_text.specs.declared.script.line.ScriptLine.{ScriptLine}
use Rattle.bare_world.specs.declared.event.WorldEvent.{WorldEvent}

-- a program
pub has_program : (holds : List ℕ → Type 0) (text : List ℕ) (program : ProgramValue) → holds text → IsProgramOf text program
    → HoldsProgram holds false
has_program holds text program held read = (program, record { text = text; held = held; read = read })

-- a program's text with a fault
pub has_faulty_program : (holds : List ℕ → Type 0) (text : List ℕ) (line : ℕ) (kind : FaultKind) → holds text → IsFaultOf text line kind
    → HoldsProgram holds true
has_faulty_program holds text line kind held first = record { text = text; held = held; line = line; kind = kind; first = first }

-- a script
pub has_script : (holds : List ℕ → Type 0) (ranks : ℕ) (text : List ℕ) (script : List ScriptLine) → holds text → first_fault ranks text ≡ None
    → script ≡ script_lines text → HoldsScriptIn holds ranks false
has_script holds ranks text script held faultless lines =
    (script, record { text = text; held = held; faultless = faultless; lines = lines })

-- a script's text with a fault
pub has_faulty_script : (holds : List ℕ → Type 0) (ranks : ℕ) (text : List ℕ) (fault : ScriptFault) → holds text → first_fault ranks text ≡ Some fault
    → HoldsScriptIn holds ranks true
has_faulty_script holds ranks text fault held first = record { text = text; held = held; fault = fault; first = first }

-- events
pub has_events : (holds : List ℕ → Type 0) (text : List ℕ) (events : List WorldEvent) → holds text → events_of text ≡ Ok events
    → HoldsEventsIn holds false
has_events holds text events held read = (events, record { text = text; held = held; read = read })

-- a text of events with a fault
pub has_faulty_events : (holds : List ℕ → Type 0) (text : List ℕ) (line : ℕ) (kind : EventsFaultKind) → holds text
    → events_of text ≡ Err (line, kind) → HoldsEventsIn holds true
has_faulty_events holds text line kind held first = record { text = text; held = held; line = line; kind = kind; first = first }

-- what the files hold of a script after something was read they held before
script_before : (holds held : List ℕ → List ℕ → Type 0) (ranks : ℕ) (name : Option (Bor (List ℕ))) (faulty : Bool)
    → ((file text : List ℕ) → holds file text → held file text) → HoldsScript holds ranks name faulty → HoldsScript held ranks name faulty
script_before holds held ranks None faulty kept is = is
script_before holds held ranks (Some name) true kept is =
    record { text = is.text; held = kept name.now is.text is.held; fault = is.fault; first = is.first }
script_before holds held ranks (Some name) false kept is =
    (is.0, record { text = is.1.text; held = kept name.now is.1.text is.1.held; faultless = is.1.faultless; lines = is.1.lines })

-- so it is of events
events_before : (holds held : List ℕ → List ℕ → Type 0) (name : Option (Bor (List ℕ))) (faulty : Bool)
    → ((file text : List ℕ) → holds file text → held file text) → HoldsEvents holds name faulty → HoldsEvents held name faulty
events_before holds held None faulty kept is = is
events_before holds held (Some name) true kept is =
    record { text = is.text; held = kept name.now is.text is.held; line = is.line; kind = is.kind; first = is.first }
events_before holds held (Some name) false kept is =
    (is.0, record { text = is.1.text; held = kept name.now is.1.text is.1.held; read = is.1.read })

-- an answer on a program with a fault
pub in_program : (holds : List ℕ → List ℕ → Type 0) (job : ExplainJob) (out : List ℕ) (status : ℕ) → status ≡ 2
    → HoldsProgram (holds job.program.now) true → IsExplainAnswer holds job out status
in_program holds job out status is program = inl (HasFault.in_program program, is)

-- on a script with a fault, which is read once the program is
pub in_script : (holds held : List ℕ → List ℕ → Type 0) (job : ExplainJob) (out : List ℕ) (status : ℕ) → status ≡ 2
    → HoldsProgram (held job.program.now) false → ((file text : List ℕ) → holds file text → held file text)
    → HoldsScript holds job.ranks job.script true → IsExplainAnswer held job out status
in_script holds held job out status is program kept script =
    inl (HasFault.in_script program (script_before holds held job.ranks job.script true kept script), is)

-- on events with a fault, which are read once the script is
pub in_events : (last holds held : List ℕ → List ℕ → Type 0) (job : ExplainJob) (out : List ℕ) (status : ℕ) → status ≡ 2
    → HoldsProgram (held job.program.now) false → ((file text : List ℕ) → holds file text → held file text)
    → HoldsScript holds job.ranks job.script false → ((file text : List ℕ) → last file text → holds file text)
    → HoldsEvents last job.events true → IsExplainAnswer held job out status
in_events last holds held job out status is program kept script kept_then events =
    inl (
      HasFault.in_events program (script_before holds held job.ranks job.script false kept script)
          (events_before last held job.events true (λ file text has. kept file text (kept_then file text has)) events),
      is,
    )

-- that there is none is said
pub says_none : (unmet out : List ℕ) (status : ℕ) → status ≡ 0 → out ≡ codes "no fault\n" ++ unmet → SaysNone out status
says_none unmet out status is whole = record { unmet = unmet; whole = whole; done = is }

-- on texts without a fault
pub in_none : (last holds held : List ℕ → List ℕ → Type 0) (job : ExplainJob) (out : List ℕ) (status : ℕ)
    → HoldsProgram (held job.program.now) false → ((file text : List ℕ) → holds file text → held file text)
    → HoldsScript holds job.ranks job.script false → ((file text : List ℕ) → last file text → holds file text)
    → HoldsEvents last job.events false → SaysNone out status → IsExplainAnswer held job out status
in_none last holds held job out status program kept script kept_then events said = inr (record {
  program = program;
  script = script_before holds held job.ranks job.script false kept script;
  events = events_before last held job.events false (λ file text has. kept file text (kept_then file text has)) events;
  said = said;
})
