-- What recovery relies on, beside where ranks stand: a rank that is behind the run has asked for
-- what it lacks, by retransmission requests, and nothing of its own holds it up.
use Rattle.std.specs.Prelude.{◌≡◌, ℕ, ◌+◌, ◌<◌, ◌≤◌, ◌⊎◌, List, [], length, Some, slice_get}
use Rattle.limits.specs.Limits.{greatest_clock}
use Rattle.checkpoint.specs.Image.{ImageValue}
use Rattle.matching.specs.Inbox.{accepted_from}
use Rattle.matching.specs.PacketValue as packet
use Rattle.payload_log.specs.Backlog.{BacklogValue, backlog}
use Rattle.rank_node.specs.declared.frame.Frame.{Frame}
use Rattle.rank_node.specs.declared.frame.Frame.TheVariants as frame
use Rattle.rank_node.specs.Frames.{due_to}
use Rattle.crash_free.specs.Runs.{Passed, history}
use Rattle.bare_world.specs.World.{Live, WorldValue, size, IsLive, IsWire}
use Rattle.bare_world.specs.Stands.{Stands}

-- the rank has yet to make acts of the run again
abbrev pub Behind : List Passed → ℕ → Live → Type 0
Behind C r v = v.rank.clock < length (history C r)

-- this frame is on the wire from one rank to another
abbrev pub OnWire : WorldValue → ℕ → ℕ → Frame → Type 0
OnWire w s d f = (frames : List Frame) × (k : ℕ) × IsWire w s d frames × (slice_get frames k ≡ Some f)

-- rank r has an Ask to s due or on the wire, that asks for no later message than the next that it
-- can accept
abbrev pub Asked : WorldValue → ℕ → Live → ℕ → Type 0
Asked w r v s =
    (from : ℕ) × (from ≤ accepted_from v.rank.inbox s + 1) × (((due_to v.rank s).ask ≡ Some from) ⊎ OnWire w r s (frame.Ask from))

-- to each rank, the next packet to transmit isn't one that was let go
abbrev pub AreAbove : List BacklogValue → Type 0
AreAbove log = (d : ℕ) → (backlog log d).base < (backlog log d).cursor

-- A live rank can get on: its clock is within its limit, and it transmits nothing that it let go;
-- and if it is behind the run, nothing waits at its gate, and it has asked each rank for what it
-- lacks.
pub record RankOnward (w : WorldValue) (r : ℕ) (v : Live) : Type 0 where
  pub clock : v.rank.clock ≤ greatest_clock
  pub above : AreAbove v.rank.log
  pub settled : Behind w.run r v → v.rank.pending ≡ []
  pub asked : Behind w.run r v → (s : ℕ) → s < size w → Asked w r v s

-- No rank has made more acts in the run than the greatest clock counts, an image transmits all that
-- it keeps, and each live rank can get on.
pub record Onward (w : WorldValue) : Type 0 where
  pub acts : (r : ℕ) → length (history w.run r) ≤ greatest_clock
  pub images : (r d : ℕ) (i : ImageValue) (b : BacklogValue) → slice_get w.images r ≡ Some (Some i) → slice_get i.log d ≡ Some b → b.cursor ≡ b.base + 1
  pub ranks : (r : ℕ) (v : Live) → IsLive w r v → RankOnward w r v

-- Each packet that a live rank transmitted and still keeps is on its wire, so the one that is to be
-- accepted next can arrive.
abbrev pub Wired : WorldValue → Type 0
Wired w = (s d j : ℕ) (u : Live) → IsLive w s u → d < size w → (backlog u.rank.log d).base < j → j < (backlog u.rank.log d).cursor
    → (p : packet.PacketValue) × OnWire w s d (frame.Data p) × (p.number ≡ j)

-- the invariant of a world: it goes with its run, its ranks can get on, and what they transmitted
-- is on the wires
pub record IsWorld (w : WorldValue) : Type 0 where
  pub stands : Stands w
  pub onward : Onward w
  pub wired : Wired w
