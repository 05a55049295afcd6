-- What it is that events play a run: under them a new world, which is an adversarial execution,
-- comes to where the crash-free run is, rank by rank, and no rank of it crashes.
use Rattle.std.specs.Prelude.{◌≡◌, ◌≢◌, ℕ, ◌<◌, ◌≤◌, List, [], ◌∷◌, length, Ok, Some, slice_get}
use Rattle.limits.specs.Limits.{most_event_lines}
use Rattle.rank_language.specs.Program.{ProgramValue}
use Rattle.event_logger.specs.Sequential.Event.{EventValue}
use Rattle.crash_free.specs.Runs.{Passed, history, printed}
use Rattle.audit.specs.Outcome.{lines_of}
use Rattle.audit.specs.Rows.{IsRow}
use Rattle.bare_world.specs.declared.event.WorldEvent.{WorldEvent}
use Rattle.bare_world.specs.declared.event.WorldEvent.TheVariants.{Step, Put, Arrive, Store, Ack, Image, Crash, Restart, Release}
use Rattle.bare_world.specs.declared.reply.Reply.{Reply}
use Rattle.bare_world.specs.declared.reply.Reply.TheVariants as reply
use Rattle.bare_world.specs.World.{WorldValue, size}
use Rattle.bare_world.specs.Headline.{IsFresh, StandsFor}
use Rattle.bare_world.specs.Sequences.{FollowsAll}
use Rattle.world_model.specs.EventsText.Events.{events_of}
use Rattle.world_model.specs.EventsText.Written.{events_text}

-- a rank makes a step, a frame goes on its way or arrives, or an event is stored or acknowledged:
-- no crash and nothing that only crashes need
abbrev pub IsPlain : WorldEvent → Type 0
IsPlain (Step r) = Unit {0}
IsPlain (Put s d) = Unit {0}
IsPlain (Arrive s d i) = Unit {0}
IsPlain (Store r) = Unit {0}
IsPlain (Ack r) = Unit {0}
IsPlain (Image r) = ⊥
IsPlain (Crash r) = ⊥
IsPlain (Restart r) = ⊥
IsPlain (Release r) = ⊥

-- none of the events is a crash, nor one that only crashes need
abbrev pub ArePlain : List WorldEvent → Type 0
ArePlain [] = Unit {0}
ArePlain (event ∷ events) = IsPlain event × ArePlain events

-- none of the events was refused
abbrev pub NoneRefused : List Reply → Type 0
NoneRefused [] = Unit {0}
NoneRefused (answer ∷ answers) = (answer ≢ reply.Refused) × NoneRefused answers

-- In the world the rank made the acts that it made in this run, each with the same message; it
-- printed the same lines, and what is stored of it stands for the events of the run.
pub record IsThere (w : WorldValue) (C : List Passed) (r : ℕ) : Type 0 where
  pub acts : history w.run r ≡ history C r
  pub lines : lines_of r w.lines ≡ printed C r
  pub row : (events : List EventValue) → slice_get w.logger.rows r ≡ Some events → IsRow C r events

-- From the one world to the other, which has n ranks, each of the events is taken; and after the
-- last one the world stands for a run without crashes, and each rank is where this run is.
pub record PlaysFrom (before : WorldValue) (n : ℕ) (C : List Passed) (events : List WorldEvent) (after : WorldValue) : Type 0 where
  pub replies : List Reply
  pub follows : FollowsAll before events replies after
  pub taken : NoneRefused replies
  pub stands : StandsFor after after.run
  pub as_many : size after ≡ n
  pub there : (r : ℕ) → r < n → IsThere after C r

-- The events play this run of a program on n ranks: none of them is a crash, and they lead there
-- from a new world, on some course.
pub record Plays (program : ProgramValue) (n : ℕ) (C : List Passed) (events : List WorldEvent) : Type 0 where
  pub plain : ArePlain events
  pub before : WorldValue
  pub fresh : IsFresh program n before
  pub after : WorldValue
  pub plays : PlaysFrom before n C events after

-- The text is read as events that play this run, no more of them than a text may have, and has them
-- one a line and nothing else.
pub record IsPlayText (program : ProgramValue) (n : ℕ) (C : List Passed) (text : List ℕ) : Type 0 where
  pub events : List WorldEvent
  pub read : events_of text ≡ Ok events
  pub plays : Plays program n C events
  pub few : length events ≤ most_event_lines
  pub written : text ≡ events_text events
