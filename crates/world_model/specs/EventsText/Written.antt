-- The text of events, one a line, and that of a recovery schedule (docs/FORMATS.md, "Events of a
-- world").
use Rattle.std.specs.Prelude.{◌≡◌, ℕ, List, [], ◌∷◌, ◌++◌, codes}
use Rattle.std.specs.Fmt.{decimal}
use Rattle.bare_world.specs.declared.event.WorldEvent.{WorldEvent}
use Rattle.bare_world.specs.declared.event.WorldEvent.TheVariants.{Step, Put, Arrive, Store, Ack, Image, Crash, Restart, Release}
use Rattle.bare_world.specs.declared.reply.Reply.{Reply}
use Rattle.bare_world.specs.World.{WorldValue}
use Rattle.bare_world.specs.Sequences.{FollowsAll}
use Rattle.bare_world.specs.Way.{IsWayOn}

-- an event's word, with its numbers behind it
abbrev pub event_text : WorldEvent → List ℕ
event_text (Step rank) = codes "step " ++ decimal rank
event_text (Put source dest) = codes "put " ++ decimal source ++ codes " " ++ decimal dest
event_text (Arrive source dest index) = codes "arrive " ++ decimal source ++ codes " " ++ decimal dest ++ codes " " ++ decimal index
event_text (Store rank) = codes "store " ++ decimal rank
event_text (Ack rank) = codes "ack " ++ decimal rank
event_text (Image rank) = codes "image " ++ decimal rank
event_text (Crash rank) = codes "crash " ++ decimal rank
event_text (Restart rank) = codes "restart " ++ decimal rank
event_text (Release rank) = codes "release " ++ decimal rank

-- the events in their order, one a line
abbrev pub events_text : List WorldEvent → List ℕ
events_text [] = []
events_text (event ∷ events) = event_text event ++ codes "\n" ++ events_text events

-- The text of a recovery schedule from where these events lead: each was answered, and the text is
-- that of a recovery schedule from the world after them.
pub record IsWayText (before : WorldValue) (events : List WorldEvent) (after : WorldValue) (text : List ℕ) : Type 0 where
  pub replies : List Reply
  pub follows : FollowsAll before events replies after
  pub way : List WorldEvent
  pub leads_on : IsWayOn after way
  pub written : text ≡ events_text way
