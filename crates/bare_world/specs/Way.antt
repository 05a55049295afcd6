-- A recovery schedule: events, none of them a crash, after which every rank is live, has nothing
-- left to replay and has made its acts of the run again. From each world there is one
-- (`World::law_way_on`): recovery is always possible.
use Rattle.std.specs.Prelude.{◌≡◌, ℕ, ◌<◌, ◌≤◌, ◌⊎◌, List, [], ◌∷◌, length, Some, slice_get}
use Rattle.rank_node.specs.declared.frame.Frame.{Frame}
use Rattle.rank_node.specs.declared.frame.Frame.TheVariants as frame
use Rattle.crash_free.specs.Runs.{Passed, history}
use Rattle.bare_world.specs.declared.event.WorldEvent.{WorldEvent}
use Rattle.bare_world.specs.declared.event.WorldEvent.TheVariants.{Step, Put, Arrive, Store, Ack, Image, Crash, Restart, Release}
use Rattle.bare_world.specs.declared.reply.Reply.{Reply}
use Rattle.bare_world.specs.World.{Live, WorldValue, size, IsLive, IsWire}
use Rattle.bare_world.specs.Follows.{CanNot, Happens}

-- The event is no crash. If it lets a frame arrive, the frame came on its wire after the start, or
-- is an Ask (a retransmission request): of what was on the wires at the start only asks may arrive.
abbrev pub IsOwn : WorldValue → WorldValue → WorldEvent → Type 0
IsOwn start w (Step r) = Unit {0}
IsOwn start w (Put s d) = Unit {0}
IsOwn start w (Arrive s d i) =
    (f : Frame) (frames old : List Frame) → IsWire w s d frames → slice_get frames i ≡ Some f → IsWire start s d old
    → (length old ≤ i) ⊎ ((n : ℕ) × (f ≡ frame.Ask n))
IsOwn start w (Store r) = Unit {0}
IsOwn start w (Ack r) = Unit {0}
IsOwn start w (Image r) = Unit {0}
IsOwn start w (Crash r) = ⊥
IsOwn start w (Restart r) = Unit {0}
IsOwn start w (Release r) = Unit {0}

-- every rank is live, has nothing left to replay, and has made at least its acts of this run
abbrev pub CaughtUp : List Passed → WorldValue → Type 0
CaughtUp C w = (r : ℕ) → r < size w → (v : Live) × IsLive w r v × (v.left ≡ []) × (length (history C r) ≤ v.rank.clock)

-- The event can happen, and there is a course that it takes.
pub record MayHappen (w : WorldValue) (event : WorldEvent) : Type 0 where
  pub can : CanNot w event → ⊥
  pub answer : Reply
  pub after : WorldValue
  pub happens : Happens w event answer after

-- Whatever course the list takes from a world, each event is the list's own and may happen, and at
-- its end every rank has caught up with the run at the start.
abbrev pub LeadsOn : WorldValue → WorldValue → List WorldEvent → Type 0
LeadsOn start w [] = CaughtUp start.run w
LeadsOn start w (event ∷ events) =
    IsOwn start w event × MayHappen w event × ((answer : Reply) (mid : WorldValue) → Happens w event answer mid → LeadsOn start mid events)

-- these events are a recovery schedule from a world
abbrev pub IsWayOn : WorldValue → List WorldEvent → Type 0
IsWayOn w events = LeadsOn w w events
