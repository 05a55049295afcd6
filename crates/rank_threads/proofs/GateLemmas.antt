-- What waits at the gate stays where frames come and go, and when a turn leaves misses there.
use Rattle.std.proofs.Common.{◌≡◌, ℕ, Bool, true, false, Option, Some, None, refl, ◌∙◌, ◌==◌}
use Rattle.std.specs.Prelude.{if◌then◌else◌}
use Rattle.checkpoint.specs.declared.memory_shelf.MemoryShelf.{MemoryShelf}
use Rattle.event_logger.specs.Desks.{DeskValue}
use Rattle.matching.specs.Inbox.{after_arrival}
use Rattle.rank_node.specs.Frames.{after_frame, after_passed, outgoing_of, sent_off, with_inbox}
use Rattle.rank_node.specs.Node.{Node}
use Rattle.rank_node.specs.Phases.{arrived_in, clock_in, passed_in}
use Rattle.rank_node.specs.declared.frame.Frame.{Frame}
use Rattle.rank_node.specs.declared.phase.Phase.TheVariants as phase
use Rattle.rank_threads.specs.Phases.{gate_in, gate_of, HasImage, SameShelf, TookImage}
use Rattle.rank_threads.specs.Phases.{Phase}
use Rattle.rank_node.specs.declared.frame.Frame.TheVariants as frame

-- a frame that came leaves it
frame_waits : (v : Node MemoryShelf DeskValue) (from : ℕ) (f : Frame) → gate_of (after_frame v from f) ≡ gate_of v
frame_waits v from (frame.Data packet) = go (packet.source == from)
  where
    go : (b : Bool) → gate_of (if b then with_inbox v (after_arrival v.inbox packet) else v) ≡ gate_of v
    go true = refl
    go false = refl
frame_waits v from (frame.Ask number) = refl
frame_waits v from (frame.Kept number) = refl

-- of a rank in any phase
pub arrived_waits : (p : Phase) (from : ℕ) (f : Frame) → gate_in (arrived_in p from f) ≡ gate_in p
arrived_waits (phase.Running v) from f = frame_waits v from f
arrived_waits (phase.Replaying r) from f = refl
arrived_waits (phase.Down s) from f = refl

-- an image that was taken stays taken as long as the shelf is as it was
pub took_image : (clock : ℕ) (stood p : Phase) → HasImage stood → clock_in stood ≡ clock → SameShelf stood p → TookImage clock p
took_image clock stood p image at same = (stood, image, at, same)

-- and after a change that leaves the shelf too
pub took_still : (clock : ℕ) (p q : Phase) → TookImage clock p → SameShelf p q → TookImage clock q
took_still clock p q took same = (took.0, took.1, took.2, same ∙ took.3)

-- what has gone leaves it
sent_waits : (v : Node MemoryShelf DeskValue) (dest : ℕ) (f : Option Frame) → gate_of (sent_off v dest f) ≡ gate_of v
sent_waits v dest None = refl
sent_waits v dest (Some (frame.Ask number)) = refl
sent_waits v dest (Some (frame.Kept number)) = refl
sent_waits v dest (Some (frame.Data packet)) = refl

-- so does what was outgoing
passed_waits : (v : Node MemoryShelf DeskValue) (dest : ℕ) → gate_of (after_passed v dest) ≡ gate_of v
passed_waits v dest = sent_waits v dest (outgoing_of v dest)

-- of a rank in any phase
pub gone_waits : (p : Phase) (dest : ℕ) → gate_in (passed_in p dest) ≡ gate_in p
gone_waits (phase.Running v) dest = passed_waits v dest
gone_waits (phase.Replaying r) dest = refl
gone_waits (phase.Down s) dest = refl
