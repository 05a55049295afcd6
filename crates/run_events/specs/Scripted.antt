-- What it is that events play a run with the kills and the images of its script: a world, which is
-- an adversarial execution, comes to where the crash-free run is, and on its way its ranks crash
-- and take images where the script has it.
use Rattle.std.specs.Prelude.{◌≡◌, ◌≢◌, ℕ, ◌<◌, ◌≤◌, ◌-◌, List, [], ◌∷◌, ◌++◌, length, take, Option, Some, None, Ok}
use Rattle.std.specs.Prelude.{slice_get, slice_index_or, option_map}
use Rattle.limits.specs.Limits.{most_event_lines}
use Rattle.rank_language.specs.Program.{ProgramValue}
use Rattle.rank_text.specs.Scripts.Script.{orders_of}
use Rattle.rank_text.specs.declared.script.line.Order.{Order}
use Rattle.rank_text.specs.declared.script.line.Order.TheVariants as order
use Rattle.rank_text.specs.declared.script.line.ScriptLine.{ScriptLine}
use Rattle.crash_free.specs.Runs.{Passed, history}
use Rattle.bare_world.specs.declared.event.WorldEvent.{WorldEvent}
use Rattle.bare_world.specs.declared.event.WorldEvent.TheVariants.{Step, Put, Arrive, Store, Ack, Image, Crash, Restart, Release}
use Rattle.bare_world.specs.declared.reply.Reply.{Reply}
use Rattle.bare_world.specs.declared.reply.Reply.TheVariants as reply
use Rattle.bare_world.specs.World.{Live, WorldValue, size, IsLive}
use Rattle.bare_world.specs.Headline.{IsFresh, StandsFor}
use Rattle.bare_world.specs.Follows.{Follows}
use Rattle.world_model.specs.EventsText.Events.{events_of}
use Rattle.world_model.specs.EventsText.Written.{events_text}
use Rattle.run_events.specs.Plays.{IsThere}

-- the lines of a script for a rank that a run used: all but the last ones, so many of which it left
abbrev pub used_lines : List ScriptLine → List ℕ → ℕ → List ScriptLine
used_lines script unused r = take (length (orders_of r script) - slice_index_or unused r 0) (orders_of r script)

-- the clock at which a rank stands; 0 if it is down
abbrev pub clock_of : Option Live → ℕ
clock_of None = 0
clock_of (Some v) = v.rank.clock

-- the line of a script that asks a rank for this where it stands
abbrev pub line_of : ℕ → Order → Option Live → ScriptLine
line_of r asked x = record { rank = r; clock = clock_of x; order = asked }

-- The line of a script that an event comes from: a crash from a kill at the clock of its rank, an
-- image from a line that asks for one there, and every other event from none.
abbrev pub line_at : WorldValue → WorldEvent → Option ScriptLine
line_at w (Step r) = None
line_at w (Put s d) = None
line_at w (Arrive s d i) = None
line_at w (Store r) = None
line_at w (Ack r) = None
line_at w (Image r) = option_map (line_of r order.Image) (slice_get w.ranks r)
line_at w (Crash r) = option_map (line_of r order.Kill) (slice_get w.ranks r)
line_at w (Restart r) = None
line_at w (Release r) = None

-- a line that there may be, and others behind it
abbrev pub before : Option ScriptLine → List ScriptLine → List ScriptLine
before None lines = lines
before (Some line) lines = line ∷ lines

-- so a line that there may be comes behind others
abbrev pub behind : List ScriptLine → Option ScriptLine → List ScriptLine
behind lines None = lines
behind lines (Some line) = lines ++ line ∷ []

-- a rank is live, has nothing left to replay, and has made its acts of the run
pub record IsBack (w : WorldValue) (r : ℕ) : Type 0 where
  pub rank : Live
  pub live : IsLive w r rank
  pub none_left : rank.left ≡ []
  pub made : length (history w.run r) ≤ rank.rank.clock

-- From the one world to the other each of the events is taken, and these are the lines of a script
-- that they come from, in their order.
pub data Takes (last : WorldValue) : WorldValue → List WorldEvent → List ScriptLine → Type 0 where
  ends : Takes last last [] []
  goes : {w mid : WorldValue} {event : WorldEvent} {events : List WorldEvent} {lines : List ScriptLine} (answer : Reply)
      → Follows w event answer mid → answer ≢ reply.Refused → Takes last mid events lines → Takes last w (event ∷ events) (before (line_at w event) lines)

-- From the one world to the other, which has n ranks, each of the events is taken. The crashes and
-- the images of each rank are the lines for it that the run used, in their order and each at its
-- clock. After the last event each rank has come back, the world stands for a run without crashes,
-- and each rank is where this run is.
pub record PlaysScriptFrom (first : WorldValue) (n : ℕ) (C : List Passed) (script : List ScriptLine) (unused : List ℕ)
    (events : List WorldEvent) (last : WorldValue) : Type 0 where
  pub lines : List ScriptLine
  pub takes : Takes last first events lines
  pub used : (r : ℕ) → r < n → orders_of r lines ≡ used_lines script unused r
  pub back : (r : ℕ) → r < size last → IsBack last r
  pub stands : StandsFor last last.run
  pub as_many : size last ≡ n
  pub there : (r : ℕ) → r < n → IsThere last C r

-- The events play this run of a program on n ranks with the lines of the script that it used: they
-- lead there from a new world, on some course.
pub record PlaysScript (program : ProgramValue) (n : ℕ) (C : List Passed) (script : List ScriptLine) (unused : List ℕ) (events : List WorldEvent) : Type 0 where
  pub first : WorldValue
  pub fresh : IsFresh program n first
  pub last : WorldValue
  pub plays : PlaysScriptFrom first n C script unused events last

-- The text is read as events that play this run with the lines of the script that it used, no more
-- of them than a text may have, and has them one a line and nothing else.
pub record IsScriptText (program : ProgramValue) (n : ℕ) (C : List Passed) (script : List ScriptLine) (unused : List ℕ) (text : List ℕ) : Type 0 where
  pub events : List WorldEvent
  pub read : events_of text ≡ Ok events
  pub plays : PlaysScript program n C script unused events
  pub few : length events ≤ most_event_lines
  pub written : text ≡ events_text events
