-- What is answered to a world that is wanted as JSON (docs/FORMATS.md, "Standard output of `world
-- --json`"). Nothing is said of its text.
use Rattle.std.specs.Prelude.{◌≡◌, ℕ, List}
use Rattle.command_line.specs.declared.job.WorldJob.{WorldJob}
use Rattle.runner.specs.Reading.{AreEventsIn, IsProgramIn}
use Rattle.rank_language.specs.Program.{ProgramValue}
use Rattle.bare_world.specs.declared.event.WorldEvent.{WorldEvent}

-- the file holds events
pub record HasEvents (holds : List ℕ → Type 0) : Type 0 where
  pub events : List WorldEvent
  pub given : AreEventsIn holds events

-- What `world --json` answers, whatever its text: it does so only if the one file holds a program
-- and the other events, with status 0.
pub record IsObjectsAnswer (holds : List ℕ → List ℕ → Type 0) (job : WorldJob) (status : ℕ) : Type 0 where
  pub program : ProgramValue
  pub read : IsProgramIn (holds job.program.now) program
  pub given : HasEvents (holds job.events.now)
  pub done : status ≡ 0
