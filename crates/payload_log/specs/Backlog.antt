-- The payload log of one destination, and its garbage collection (sender-based message logging).
--
-- The payloads stay in the sender's memory. A receiver asks for them again after a crash, and
-- they are dropped when a checkpoint of the receiver makes them superfluous. A packet is held
-- back while its send isn't committed (output commit).
--
-- Source: Johnson and Zwaenepoel 1987; Alvisi and Marzullo 1998; Bouteiller and others 2003
-- (MPICH-V2: garbage collection); Strom and Yemini 1985 (output commit).
use Rattle.std.specs.Prelude.{◌≡◌, ℕ, ◌+◌, ◌-◌, ◌<◌, ◌≤◌, List, [], ◌∷◌, ◌++◌, length, nat_lt, if◌then◌else◌, take, drop, min, max}
use Rattle.std.specs.Prelude.{slice_index_or, slice_get, Option}
use Rattle.limits.specs.Limits.{greatest_clock}
use Rattle.matching.specs.PacketValue.{PacketValue}

-- the number up to which packets were collected, how many were saved in all, the number of the
-- next to transmit, the packets kept, and the packets held, which come after the saved ones and
-- aren't transmitted yet
pub record BacklogValue : Type 0 where
  pub base : ℕ
  pub sent : ℕ
  pub cursor : ℕ
  pub kept : List PacketValue
  pub held : List PacketValue

-- the backlog of packets that stand in one list by number: those up to the last one sent are
-- kept, and the others are held
abbrev pub backlog_of : ℕ → ℕ → ℕ → List PacketValue → BacklogValue
backlog_of base sent cursor packets = record {
  base = base;
  sent = sent;
  cursor = cursor;
  kept = take (sent - base) packets;
  held = drop (sent - base) packets;
}

-- the message at each place has the next number
abbrev pub AreNumbered : ℕ → List PacketValue → Type 0
AreNumbered base ms = (k : ℕ) (d : PacketValue) → k < length ms → (slice_index_or ms k d).number ≡ base + k + 1

-- the packets kept are those from the one after the base to the last one sent, and the cursor is
-- above the base and at most one past what there is
pub record IsBacklog (b : BacklogValue) : Type 0 where
  pub kept : length b.kept ≡ b.sent - b.base
  pub numbered : AreNumbered b.base b.kept
  pub above : b.base < b.cursor
  pub below : b.cursor ≤ max b.base b.sent + 1
  pub base : b.base ≤ greatest_clock
  pub sent : b.sent + length b.held ≤ greatest_clock
  pub next : AreNumbered b.sent b.held

-- nothing was saved
abbrev pub new_backlog : BacklogValue
new_backlog = record { base = 0; sent = 0; cursor = 1; kept = []; held = [] }

-- the number of the packet that is made next: what is held has numbers too
abbrev pub next_number : BacklogValue → ℕ
next_number b = b.sent + length b.held + 1

-- a packet is counted, and kept if its number is above the base
abbrev pub saved : BacklogValue → PacketValue → BacklogValue
saved b m = record b { sent = b.sent + 1; kept = if nat_lt b.base m.number then b.kept ++ m ∷ [] else b.kept }

-- a packet is held: it goes last, and nothing else changes
abbrev pub hold : BacklogValue → PacketValue → BacklogValue
hold b m = record b { held = b.held ++ m ∷ [] }

-- the oldest held packet, the first of these, is saved
abbrev pub freed_of : BacklogValue → List PacketValue → BacklogValue
freed_of b [] = b
freed_of b (m ∷ ms) = saved (record b { held = ms }) m

-- the oldest held packet is saved; if none is held, nothing changes
abbrev pub freed : BacklogValue → BacklogValue
freed b = freed_of b b.held

-- the packet at the cursor, if it was sent already
abbrev pub next_of : BacklogValue → Option PacketValue
next_of b = slice_get b.kept (b.cursor - (b.base + 1))

-- the packet at the cursor was transmitted
abbrev pub passed : BacklogValue → BacklogValue
passed b = record b { cursor = b.cursor + 1 }

-- a retransmission request: the cursor goes back to that number, but never to one that isn't
-- kept, and never forward
abbrev pub asked : BacklogValue → ℕ → BacklogValue
asked b from = record b { cursor = max (b.base + 1) (min b.cursor from) }

-- garbage collection: a receiver no longer needs the packets up to a number, so those still kept
-- are dropped and the base rises; an old notice changes nothing
abbrev pub pruned : BacklogValue → ℕ → BacklogValue
pruned b upto =
    if nat_lt b.base upto
    then record b { base = upto; cursor = max b.cursor (upto + 1); kept = drop (upto - b.base) b.kept }
    else b

-- of all packets ever saved, as one list by number, the log keeps those above the base and no
-- others, and the cursor is above the base
pub record Keeps (b : BacklogValue) (all : List PacketValue) : Type 0 where
  pub numbered : AreNumbered 0 all
  pub sent : length all ≡ b.sent
  pub kept : b.kept ≡ drop b.base all
  pub above : b.base < b.cursor

-- what is kept for a destination
abbrev pub backlog : List BacklogValue → ℕ → BacklogValue
backlog bs dest = slice_index_or bs dest new_backlog

-- these packets are kept for a destination, to be transmitted from the first on; nothing is held
abbrev pub from_beginning : ℕ → ℕ → List PacketValue → BacklogValue
from_beginning base sent kept = record { base = base; sent = sent; cursor = base + 1; kept = kept; held = [] }
