-- The text of events that lead a world to its end (docs/FORMATS.md, "Events of a world"), and why
-- there is none.
use Rattle.std.specs.Prelude.{◌≡◌, ℕ, ◌≤◌, ◌⊎◌, List}
use Rattle.runner.specs.declared.commands.refusal.Refusal.{Refusal}
use Rattle.runner.specs.declared.commands.refusal.Refusal.TheVariants as refusal
use Rattle.world_model.specs.EventsText.Written.{events_text}
use Rattle.bare_world.specs.Finished.{AllRest, ComesTo, IsAfter, steps_in}
use Rattle.bare_world.specs.Sequences.{FollowsAll}
use Rattle.bare_world.specs.ToTheEnd.{HasEnded, Leads}
use Rattle.bare_world.specs.World.{WorldValue}
use Rattle.bare_world.specs.declared.event.WorldEvent.{WorldEvent}
use Rattle.bare_world.specs.declared.finish.FinishEnd.{FinishEnd}
use Rattle.bare_world.specs.declared.finish.FinishEnd.TheVariants as finish
use Rattle.bare_world.specs.declared.reply.Reply.{Reply}

-- These events lead from one world to another in which the program has ended: none is a crash, and
-- one after another can happen. The other world is of the same program on as many ranks, and its
-- run goes on from the first one's. Every rank of it is at rest, so none has a step left. No rank
-- makes more steps than so many.
pub record EndsBy (steps : ℕ) (w : WorldValue) (events : List WorldEvent) (w' : WorldValue) : Type 0 where
  pub leads : Leads w events w'
  pub after : IsAfter w w'
  pub ended : HasEnded w'
  pub rest : AllRest w'
  pub few : (r : ℕ) → steps_in r events ≤ steps

-- The text of events to the end from where these events lead: each was answered, and the text is
-- that of events by which the world after them ends.
pub record IsFinishText (steps : ℕ) (before : WorldValue) (events : List WorldEvent) (after : WorldValue) (text : List ℕ) : Type 0 where
  pub replies : List Reply
  pub reached : WorldValue
  pub follows : FollowsAll before events replies reached
  pub list : List WorldEvent
  pub ends : EndsBy steps reached list after
  pub written : text ≡ events_text list

-- the refusal of a world that comes to this end; if it has ended, there is no memory for the text
abbrev pub refusal_of_end : ℕ → FinishEnd → Refusal
refusal_of_end steps finish.Ended = refusal.Memory
refusal_of_end steps (finish.OutOfRounds rank) = refusal.OutOfSteps rank steps
refusal_of_end steps (finish.Spent rank fault) = refusal.Node rank fault
refusal_of_end steps finish.OutOfMemory = refusal.Memory

-- A world that was played from where these events lead, each of which was answered, and has come to
-- something else than the end: this is told.
pub record ComesToElse (steps : ℕ) (before : WorldValue) (events : List WorldEvent) (after : WorldValue) (refused : Refusal) : Type 0 where
  pub replies : List Reply
  pub reached : WorldValue
  pub follows : FollowsAll before events replies reached
  pub list : List WorldEvent
  pub end : FinishEnd
  pub comes : ComesTo reached after steps list end
  pub told : refused ≡ refusal_of_end steps end

-- why a world isn't led to its end: it has come to something else, or there is no memory
abbrev pub IsWithoutEnd : ℕ → WorldValue → List WorldEvent → WorldValue → Refusal → Type 0
IsWithoutEnd steps before events after refused = ComesToElse steps before events after refused ⊎ (refused ≡ refusal.Memory)
