-- What is read from the files that the arguments name. That a file holds a text means that this text
-- may be read from it (`Files::holds`).
use Rattle.std.specs.Prelude.{◌≡◌, ℕ, List, [], Ok, Option, Some, None}
use Rattle.std.specs.Borrow.{Bor}
use Rattle.world_model.specs.EventsText.Events.{events_of}
use Rattle.rank_language.specs.Correct.{IsProgramOf}
use Rattle.rank_language.specs.Program.{ProgramValue}
use Rattle.rank_language.specs.StandOn.{IsLinedOf}
use Rattle.rank_text.specs.Scripts.Script.{first_fault, script_lines}
use Rattle.rank_text.specs.declared.script.line.ScriptLine.{ScriptLine}
use Rattle.bare_world.specs.declared.event.WorldEvent.{WorldEvent}

-- This is the program of a text that the file holds.
pub record IsProgramIn (holds : List ℕ → Type 0) (program : ProgramValue) : Type 0 where
  pub text : List ℕ
  pub held : holds text
  pub read : IsProgramOf text program

-- This is the program of a text that the file holds, and its statements stand on these lines.
pub record IsLinedIn (holds : List ℕ → Type 0) (program : ProgramValue) (lines : List ℕ) : Type 0 where
  pub text : List ℕ
  pub held : holds text
  pub read : IsLinedOf text program lines

-- These are the lines of a script, for a run of so many ranks, of a text that the file holds.
pub record IsScriptIn (holds : List ℕ → Type 0) (ranks : ℕ) (script : List ScriptLine) : Type 0 where
  pub text : List ℕ
  pub held : holds text
  pub faultless : first_fault ranks text ≡ None
  pub lines : script ≡ script_lines text

-- They are those of the file of this name; a run for which no file is named has none.
abbrev pub IsScriptBy : (List ℕ → List ℕ → Type 0) → ℕ → Option (Bor (List ℕ)) → List ScriptLine → Type 0
IsScriptBy holds ranks None script = script ≡ []
IsScriptBy holds ranks (Some name) script = IsScriptIn (holds name.now) ranks script

-- These are the events of a text that the file holds.
pub record AreEventsIn (holds : List ℕ → Type 0) (events : List WorldEvent) : Type 0 where
  pub text : List ℕ
  pub held : holds text
  pub read : events_of text ≡ Ok events
