-- A rank in any phase: what of it is stable, what it still has to replay, its frames and its copies
-- (fail-stop processes with stable storage: Schlichting and Schneider, "Fail-Stop Processors",
-- 1983).
use Rattle.std.specs.Prelude.{ℕ, List, [], ◌∷◌, Option, Some, None}
use Rattle.event_logger.specs.Sequential.Event.{EventValue}
use Rattle.rank_node.specs.Copied.{node_with, stored_with}
use Rattle.rank_node.specs.Frames.{after_frame, after_passed, arrival_of, outgoing_of}
use Rattle.rank_node.specs.Replay.{Replay}
use Rattle.rank_node.specs.Stored.{Stored}
use Rattle.rank_node.specs.declared.frame.Frame.{Frame}
use Rattle.rank_node.specs.declared.phase.Phase.{Phase}
use Rattle.rank_node.specs.declared.phase.Phase.TheVariants as phase
use Rattle.rank_node.specs.declared.turn.Arrived.{Arrived}

-- what outlives a crash of the rank
abbrev pub stable_in : {S D : Type 0} → Phase S D → Stored S D
stable_in (phase.Running v) = v.stable
stable_in (phase.Replaying r) = r.node.stable
stable_in (phase.Down s) = s

-- how many acts the rank has made; none if it is down
abbrev pub clock_in : {S D : Type 0} → Phase S D → ℕ
clock_in (phase.Running v) = v.clock
clock_in (phase.Replaying r) = r.node.clock
clock_in (phase.Down s) = 0

-- the events that it still has to replay; none if it runs or is down
abbrev pub left_in : {S D : Type 0} → Phase S D → List EventValue
left_in (phase.Running v) = []
left_in (phase.Replaying r) = r.left
left_in (phase.Down s) = []

-- a rank that replays runs as soon as nothing is left to replay
abbrev pub settled_replay : {S D : Type 0} → Replay S D → List EventValue → Phase S D
settled_replay r [] = phase.Running r.node
settled_replay r (e ∷ left) = phase.Replaying r

-- the same of a rank in any phase
abbrev pub settled_in : {S D : Type 0} → Phase S D → Phase S D
settled_in (phase.Running v) = phase.Running v
settled_in (phase.Replaying r) = settled_replay r r.left
settled_in (phase.Down s) = phase.Down s

-- ---- frames

-- how a frame from a rank is taken in; one that is down answers nothing
abbrev pub arrival_in : {S D : Type 0} → Phase S D → ℕ → Frame → Option Arrived
arrival_in (phase.Running v) source frame = Some (arrival_of v source frame)
arrival_in (phase.Replaying r) source frame = Some (arrival_of r.node source frame)
arrival_in (phase.Down s) source frame = None

-- the rank after a frame that came from a rank; one that is down drops it
abbrev pub arrived_in : {S D : Type 0} → Phase S D → ℕ → Frame → Phase S D
arrived_in (phase.Running v) source frame = phase.Running (after_frame v source frame)
arrived_in (phase.Replaying r) source frame = phase.Replaying (record r { node = after_frame r.node source frame })
arrived_in (phase.Down s) source frame = phase.Down s

-- what goes to a rank next; nothing from one that is down
abbrev pub outgoing_in : {S D : Type 0} → Phase S D → ℕ → Option Frame
outgoing_in (phase.Running v) dest = outgoing_of v dest
outgoing_in (phase.Replaying r) dest = outgoing_of r.node dest
outgoing_in (phase.Down s) dest = None

-- the rank after what is outgoing has gone
abbrev pub passed_in : {S D : Type 0} → Phase S D → ℕ → Phase S D
passed_in (phase.Running v) dest = phase.Running (after_passed v dest)
passed_in (phase.Replaying r) dest = phase.Replaying (record r { node = after_passed r.node dest })
passed_in (phase.Down s) dest = phase.Down s

-- ---- copies

-- the rank with this desk and this shelf, and all else as it was
abbrev pub phase_with : {S D : Type 0} → Phase S D → D → S → Phase S D
phase_with (phase.Running v) desk shelf = phase.Running (node_with v desk shelf)
phase_with (phase.Replaying r) desk shelf = phase.Replaying (record r { node = node_with r.node desk shelf })
phase_with (phase.Down s) desk shelf = phase.Down (stored_with s desk shelf)
