-- What a tool answers, of the texts that the files hold.
use Rattle.std.proofs.Common.{◌≡◌, ℕ, Bool, List, Ok, subst, sym}
use Rattle.c_program.specs.Whole.{IsCText}
use Rattle.command_line.specs.declared.job.WorldJob.{WorldJob}
use Rattle.world_model.specs.EventsText.Events.{events_of}
use Rattle.rank_language.specs.Correct.{IsProgramOf}
use Rattle.rank_language.specs.Program.{ProgramValue}
use Rattle.runner.specs.Objects.{HasEvents, IsObjectsAnswer}
use Rattle.runner.specs.Translations.{IsCAnswer}
use Rattle.bare_world.specs.declared.event.WorldEvent.{WorldEvent}

-- the C text of a text that the file holds
pub is_c_answer : (holds : List ℕ → Type 0) (synchronous : Bool) (text c out : List ℕ) (status : ℕ) → holds text
    → IsCText synchronous text c → out ≡ c → status ≡ 0
    → IsCAnswer holds synchronous out status
is_c_answer holds synchronous text c out status held translated same done =
    record { text = text; held = held; translated = subst (IsCText synchronous text) (sym same) translated; done = done }

-- the events of a text that the file holds
pub has_events : (holds : List ℕ → Type 0) (text : List ℕ) (events : List WorldEvent)
    → holds text → events_of text ≡ Ok events → HasEvents holds
has_events holds text events held read = record { events = events; given = record { text = text; held = held; read = read } }

-- events of a file that is read once the program is
pub is_objects_answer : (holds held : List ℕ → List ℕ → Type 0) (job : WorldJob) (text : List ℕ) (program : ProgramValue)
    (status : ℕ) → held job.program.now text → IsProgramOf text program → ((file text : List ℕ) → holds file text → held file text)
    → HasEvents (holds job.events.now) → status ≡ 0 → IsObjectsAnswer held job status
is_objects_answer holds held job text program status has read kept events done = record {
  program = program;
  read = record { text = text; held = has; read = read };
  given = record {
    events = events.events;
    given = record { text = events.given.text; held = kept job.events.now events.given.text events.given.held; read = events.given.read };
  };
  done = done;
}
