-- What is left of a world when memory is refused, and which events take none.
use Rattle.std.specs.Prelude.{◌≡◌, ℕ, Bool, false, ◌⊎◌, List, [], ◌∷◌}
use Rattle.event_logger.specs.Sequential.Event.{EventValue}
use Rattle.event_logger.specs.Sequential.History.{Answers}
use Rattle.event_logger.specs.declared.sequential.call.Call.TheVariants.{Fetch}
use Rattle.event_logger.specs.declared.sequential.call.Reply.TheVariants.{Events}
use Rattle.rank_node.specs.Steps.{takes_memory}
use Rattle.rank_node.specs.Replay.{replay_takes_memory}
use Rattle.bare_world.specs.declared.event.WorldEvent.{WorldEvent}
use Rattle.bare_world.specs.declared.event.WorldEvent.TheVariants.{Step, Put, Arrive, Store, Ack, Image, Crash, Restart, Release}
use Rattle.bare_world.specs.World.{Rank, Live, WorldValue, IsLive, IsDown}
use Rattle.bare_world.specs.Follows.{CanNot}

-- a restart's fetch was answered, and then memory was refused: the call stays in the logger's
-- history
pub record Fetched (w : WorldValue) (r : ℕ) (w' : WorldValue) : Type 0 where
  pub down : IsDown w r
  pub events : List EventValue
  pub fetches : Answers w.logger r (Fetch 0) (Events events) w'.logger
  pub after : w' ≡ record w { logger = w'.logger }

-- what is left when memory is refused: all as it was, except for a fetch that was answered
abbrev pub Unchanged : WorldValue → WorldEvent → WorldValue → Type 0
Unchanged w (Step r) w' = w' ≡ w
Unchanged w (Put s d) w' = w' ≡ w
Unchanged w (Arrive s d i) w' = w' ≡ w
Unchanged w (Store r) w' = w' ≡ w
Unchanged w (Ack r) w' = w' ≡ w
Unchanged w (Image r) w' = w' ≡ w
Unchanged w (Crash r) w' = w' ≡ w
Unchanged w (Restart r) w' = (w' ≡ w) ⊎ Fetched w r w'
Unchanged w (Release r) w' = w' ≡ w

-- whether the step of a live rank takes memory, by what is left to replay
abbrev pub step_takes_memory : Rank → List EventValue → Bool
step_takes_memory v [] = takes_memory v
step_takes_memory v (e ∷ rest) = replay_takes_memory v

-- The event takes no memory: a step that is the machine's own, or is blocked or held, or comes
-- after the end, or replays a reception, a hit or a miss; each acknowledgment; and each crash. An
-- event that can't happen takes none either.
abbrev pub TakesNoMemory : WorldValue → WorldEvent → Type 0
TakesNoMemory w (Step r) = (v : Live) → IsLive w r v → step_takes_memory v.rank v.left ≡ false
TakesNoMemory w (Put s d) = CanNot w (Put s d)
TakesNoMemory w (Arrive s d i) = CanNot w (Arrive s d i)
TakesNoMemory w (Store r) = CanNot w (Store r)
TakesNoMemory w (Ack r) = Unit {0}
TakesNoMemory w (Image r) = CanNot w (Image r)
TakesNoMemory w (Crash r) = Unit {0}
TakesNoMemory w (Restart r) = CanNot w (Restart r)
TakesNoMemory w (Release r) = CanNot w (Release r)
