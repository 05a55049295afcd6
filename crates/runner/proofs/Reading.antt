-- What is read of a text that a file holds.
use Rattle.std.proofs.Common.{◌≡◌, ℕ, List, Option, Some, None, Ok}
use Rattle.std.specs.Borrow.{Bor}
use Rattle.world_model.specs.EventsText.Events.{events_of}
use Rattle.rank_language.specs.Correct.{IsProgramOf}
use Rattle.rank_language.specs.Program.{ProgramValue}
use Rattle.rank_language.specs.StandOn.{IsLinedOf}
use Rattle.runner.specs.Reading.{AreEventsIn, IsLinedIn, IsProgramIn, IsScriptBy, IsScriptIn}
use Rattle.rank_text.specs.Scripts.Script.{first_fault, script_lines}
use Rattle.rank_text.specs.declared.script.line.ScriptLine.{ScriptLine}
use Rattle.bare_world.specs.declared.event.WorldEvent.{WorldEvent}

-- the program of a text that the file holds
pub is_program_in : (holds : List ℕ → Type 0) (text : List ℕ) (program : ProgramValue)
    → holds text → IsProgramOf text program → IsProgramIn holds program
is_program_in holds text program held read = record { text = text; held = held; read = read }

-- with the lines of its statements
pub is_lined_in : (holds : List ℕ → Type 0) (text : List ℕ) (program : ProgramValue) (lines : List ℕ)
    → holds text → IsLinedOf text program lines → IsLinedIn holds program lines
is_lined_in holds text program lines held read = record { text = text; held = held; read = read }

-- the program with lines is the program
pub program_of_lined : (holds : List ℕ → Type 0) (program : ProgramValue) (lines : List ℕ) → IsLinedIn holds program lines
    → IsProgramIn holds program
program_of_lined holds program lines lined = record {
  text = lined.text;
  held = lined.held;
  read = record { forms = lined.read.forms; reads = lined.read.reads; program = lined.read.program };
}

-- the lines of a script in a text that the file holds
pub is_script_in : (holds : List ℕ → Type 0) (ranks : ℕ) (text : List ℕ) (script : List ScriptLine)
    → holds text → first_fault ranks text ≡ None → script ≡ script_lines text → IsScriptIn holds ranks script
is_script_in holds ranks text script held faultless lines =
    record { text = text; held = held; faultless = faultless; lines = lines }

-- a script that the files hold after something was read they held before
pub script_held_before : (holds held : List ℕ → List ℕ → Type 0) (ranks : ℕ) (name : Option (Bor (List ℕ))) (script : List ScriptLine)
    → ((file text : List ℕ) → holds file text → held file text) → IsScriptBy holds ranks name script → IsScriptBy held ranks name script
script_held_before holds held ranks None script kept given = given
script_held_before holds held ranks (Some name) script kept given =
    record { text = given.text; held = kept name.now given.text given.held; faultless = given.faultless; lines = given.lines }

-- the events of a text that the file holds
pub are_events_in : (holds : List ℕ → Type 0) (text : List ℕ) (events : List WorldEvent)
    → holds text → events_of text ≡ Ok events → AreEventsIn holds events
are_events_in holds text events held read = record { text = text; held = held; read = read }
