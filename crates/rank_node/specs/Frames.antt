-- Frames between ranks: what an arrival does, and what goes out next. A restarted receiver asks
-- each sender for what it lacks (Ask, a retransmission request), an image lets senders drop what it
-- has (Kept, a garbage-collection notice of payload logs), and a packet that comes twice is dropped
-- by its number (duplicate suppression): MPICH-V2; Alvisi and Marzullo 1998, section 3.
use Rattle.std.specs.Prelude.{ℕ, List, Option, Some, None, slice_set, slice_index_or, ◌==◌, if◌then◌else◌}
use Rattle.matching.specs.PacketValue.{PacketValue}
use Rattle.matching.specs.Inbox.{Mailbox, answer_to, after_arrival}
use Rattle.matching.specs.declared.inbox.Accept.{Accept}
use Rattle.matching.specs.declared.inbox.Accept.TheVariants as accept
use Rattle.payload_log.specs.Backlog.{BacklogValue, backlog, asked, pruned, passed, next_of}
use Rattle.rank_node.specs.declared.due.Due.{Due}
use Rattle.rank_node.specs.declared.frame.Frame.{Frame}
use Rattle.rank_node.specs.declared.frame.Frame.TheVariants as frame
use Rattle.rank_node.specs.declared.turn.Arrived.{Arrived}
use Rattle.rank_node.specs.declared.turn.Arrived.TheVariants as arrived
use Rattle.rank_node.specs.Node.{Node, no_due}

-- with this payload log, and all else as it was
abbrev pub with_log : {S D : Type 0} → Node S D → List BacklogValue → Node S D
with_log v log = record v { log = log }

-- with this inbox, and all else as it was
abbrev pub with_inbox : {S D : Type 0} → Node S D → Mailbox → Node S D
with_inbox v inbox = record v { inbox = inbox }

-- with this due to each rank, and all else as it was
abbrev pub with_dues : {S D : Type 0} → Node S D → List Due → Node S D
with_dues v dues = record v { dues = dues }

-- a packet that the inbox accepts, has or misses one before is answered so
abbrev pub arrived_as : Accept → Arrived
arrived_as accept.Accepted = arrived.Accepted
arrived_as accept.Repeated = arrived.Repeated
arrived_as accept.Gap = arrived.Gap

-- a packet of another rank than the one it came from is foreign, and what isn't a packet is noted
abbrev pub arrival_of : {S D : Type 0} → Node S D → ℕ → Frame → Arrived
arrival_of v from (frame.Data packet) = if packet.source == from then arrived_as (answer_to v.inbox packet) else arrived.Foreign
arrival_of v from (frame.Ask number) = arrived.Noted
arrival_of v from (frame.Kept number) = arrived.Noted

-- a packet goes to the inbox, unless it is foreign, and what isn't a packet goes to the payload log
-- for that rank
abbrev pub after_frame : {S D : Type 0} → Node S D → ℕ → Frame → Node S D
after_frame v from (frame.Data packet) = if packet.source == from then with_inbox v (after_arrival v.inbox packet) else v
after_frame v from (frame.Ask number) = with_log v (slice_set v.log from (asked (backlog v.log from) number))
after_frame v from (frame.Kept number) = with_log v (slice_set v.log from (pruned (backlog v.log from) number))

-- what is due to a rank
abbrev pub due_to : {S D : Type 0} → Node S D → ℕ → Due
due_to v dest = slice_index_or v.dues dest no_due

-- a due Kept goes before the next packet
abbrev pub after_ask : Option ℕ → Option PacketValue → Option Frame
after_ask (Some number) next = Some (frame.Kept number)
after_ask None (Some packet) = Some (frame.Data packet)
after_ask None None = None

-- a due Ask goes first, else a due Kept, else the next packet
abbrev pub first_of : Option ℕ → Option ℕ → Option PacketValue → Option Frame
first_of (Some number) kept next = Some (frame.Ask number)
first_of None kept next = after_ask kept next

-- what goes to a rank next, if anything does
abbrev pub outgoing_of : {S D : Type 0} → Node S D → ℕ → Option Frame
outgoing_of v dest = first_of (due_to v dest).ask (due_to v dest).kept (next_of (backlog v.log dest))

-- a frame that has gone isn't due any more, and after a packet the next one is at the cursor
abbrev pub sent_off : {S D : Type 0} → Node S D → ℕ → Option Frame → Node S D
sent_off v dest None = v
sent_off v dest (Some (frame.Ask number)) = with_dues v (slice_set v.dues dest (record { ask = None; kept = (due_to v dest).kept }))
sent_off v dest (Some (frame.Kept number)) = with_dues v (slice_set v.dues dest (record { ask = (due_to v dest).ask; kept = None }))
sent_off v dest (Some (frame.Data packet)) = with_log v (slice_set v.log dest (passed (backlog v.log dest)))

-- the rank after what is outgoing has gone
abbrev pub after_passed : {S D : Type 0} → Node S D → ℕ → Node S D
after_passed v dest = sent_off v dest (outgoing_of v dest)

-- a packet goes next
abbrev pub IsPacket : Option Frame → Type 0
IsPacket None = ⊥
IsPacket (Some (frame.Data packet)) = Unit {0}
IsPacket (Some (frame.Ask number)) = ⊥
IsPacket (Some (frame.Kept number)) = ⊥
