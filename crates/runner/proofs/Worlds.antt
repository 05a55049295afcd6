-- The text of a new world is an answer, and what is printed of the world of a job.
use Rattle.std.proofs.Common.{◌≡◌, ℕ, List, subst, sym}
use Rattle.command_line.specs.declared.job.WorldJob.{WorldJob}
use Rattle.rank_language.specs.Program.{ProgramValue}
use Rattle.runner.specs.Reading.{AreEventsIn, IsProgramIn}
use Rattle.runner.specs.Worlds.{IsAnswer, IsTextOf, IsWorldAnswer}
use Rattle.runner.specs.declared.commands.world.WorldQuestion.{WorldQuestion}
use Rattle.bare_world.specs.Headline.{IsFresh}
use Rattle.bare_world.specs.World.{WorldValue}
use Rattle.bare_world.specs.declared.event.WorldEvent.{WorldEvent}

-- a text of a world that was new
pub is_answer : (program : ProgramValue) (ranks : ℕ) (wanted : WorldQuestion) (events : List WorldEvent) (before after : WorldValue) (text : List ℕ)
    → IsFresh program ranks before → IsTextOf wanted before events after text → IsAnswer program ranks wanted events text
is_answer program ranks wanted events before after text fresh told =
    record { before = before; after = after; fresh = fresh; told = told }

-- the text of the world of the job's program under events that are read once the program is
pub is_world_answer : (holds held : List ℕ → List ℕ → Type 0) (job : WorldJob) (wanted : WorldQuestion) (program : ProgramValue) (events : List WorldEvent)
    (text out : List ℕ) (status : ℕ) → IsProgramIn (held job.program.now) program → ((file text : List ℕ) → holds file text → held file text)
    → AreEventsIn (holds job.events.now) events → IsAnswer program job.ranks wanted events text → out ≡ text → status ≡ 0
    → IsWorldAnswer held job wanted out status
is_world_answer holds held job wanted program events text out status read kept given answer same done = record {
  text = record {
    program = program;
    read = read;
    events = events;
    given = record { text = given.text; held = kept job.events.now given.text given.held; read = given.read };
    answer = subst (IsAnswer program job.ranks wanted events) (sym same) answer;
  };
  done = done;
}
