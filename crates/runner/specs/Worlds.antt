-- What is printed of a world: the replies to the events of a file, or a recovery schedule from
-- where they lead, or events that lead from there to the end.
use Rattle.std.specs.Prelude.{◌≡◌, ℕ, List}
use Rattle.command_line.specs.declared.job.WorldJob.{WorldJob}
use Rattle.world_model.specs.EventsText.Output.{IsRunText}
use Rattle.world_model.specs.EventsText.Written.{IsWayText}
use Rattle.rank_language.specs.Program.{ProgramValue}
use Rattle.runner.specs.FinishText.{IsFinishText}
use Rattle.runner.specs.Reading.{AreEventsIn, IsProgramIn}
use Rattle.runner.specs.declared.commands.world.WorldQuestion.{WorldQuestion}
use Rattle.runner.specs.declared.commands.world.WorldQuestion.TheVariants.{Replies, WayOn, TheEnd}
use Rattle.bare_world.specs.Headline.{IsFresh}
use Rattle.bare_world.specs.World.{WorldValue}
use Rattle.bare_world.specs.declared.event.WorldEvent.{WorldEvent}

-- what is wanted of a world, under these events that lead it to another, is this text; the other is
-- the one at the end, where that is wanted
abbrev pub IsTextOf : WorldQuestion → WorldValue → List WorldEvent → WorldValue → List ℕ → Type 0
IsTextOf Replies before events after text = IsRunText before events after text
IsTextOf WayOn before events after text = IsWayText before events after text
IsTextOf (TheEnd steps) before events after text = IsFinishText steps before events after text

-- What is wanted of a new world of this program and so many ranks, under these events, is this
-- text.
pub record IsAnswer (program : ProgramValue) (ranks : ℕ) (wanted : WorldQuestion) (events : List WorldEvent) (text : List ℕ) : Type 0 where
  pub before : WorldValue
  pub after : WorldValue
  pub fresh : IsFresh program ranks before
  pub told : IsTextOf wanted before events after text

-- What is wanted of the job's world is this text: the world of the program that the one file holds,
-- under the events that the other holds.
pub record IsWorldText (holds : List ℕ → List ℕ → Type 0) (job : WorldJob) (wanted : WorldQuestion) (text : List ℕ) : Type 0 where
  pub program : ProgramValue
  pub read : IsProgramIn (holds job.program.now) program
  pub events : List WorldEvent
  pub given : AreEventsIn (holds job.events.now) events
  pub answer : IsAnswer program job.ranks wanted events text

-- What `world` and `catch-up` answer: that text, and status 0.
pub record IsWorldAnswer (holds : List ℕ → List ℕ → Type 0) (job : WorldJob) (wanted : WorldQuestion) (out : List ℕ) (status : ℕ) : Type 0 where
  pub text : IsWorldText holds job wanted out
  pub done : status ≡ 0
