-- The inbox as contracts see it: duplicate suppression by sequence numbers, and non-overtaking
-- order.
--
-- Each source numbers its messages to this rank. The inbox accepts them in the order of these
-- numbers, without gap or repetition. So the messages of one source stand there in the order in
-- which they were sent.
--
-- Source: Alvisi and Marzullo 1998; MPI 1.1, 3.5 (order of messages).
use Rattle.std.specs.Prelude.{◌≡◌, ℕ, ◌+◌, ◌<◌, ◌≤◌, Bool, ◌&&◌, ◌||◌, not, List, [], ◌∷◌, ◌++◌}
use Rattle.std.specs.Prelude.{length, ◌==◌, nat_le, nat_lt, if◌then◌else◌, slice_index, slice_set, remove}
use Rattle.std.specs.Prelude.{All, AllPairs}
use Rattle.std.specs.List.{list_all}
use Rattle.limits.specs.Limits.{greatest_clock}
use Rattle.matching.specs.PacketValue.{PacketValue}
use Rattle.matching.specs.Queue.{without_first}
use Rattle.matching.specs.declared.inbox.Accept.{Accept}
use Rattle.matching.specs.declared.inbox.Accept.TheVariants.{Accepted, Repeated, Gap}

-- the packets in order of acceptance, and for each source how many of its packets were accepted
pub record Mailbox : Type 0 where
  pub packets : List PacketValue
  pub accepted : List ℕ

-- how many packets of this source were accepted
abbrev pub accepted_from : Mailbox → ℕ → ℕ
accepted_from box source = slice_index box.accepted source

-- a packet is a repetition if its number isn't above the count of its source, accepted if it is
-- the next of its source, and else comes over a gap
abbrev pub answer_to : Mailbox → PacketValue → Accept
answer_to box m =
    if nat_le m.number (accepted_from box m.source) then Repeated
    else (if m.number == accepted_from box m.source + 1 then Accepted else Gap)

-- the inbox with this packet last, and counted
abbrev pub with_packet : Mailbox → PacketValue → Mailbox
with_packet box m = record { packets = box.packets ++ m ∷ []; accepted = slice_set box.accepted m.source m.number }

-- an arrival leaves the inbox as it was, unless the packet's number is the next of its source
abbrev pub after_arrival : Mailbox → PacketValue → Mailbox
after_arrival box m = if m.number == accepted_from box m.source + 1 then with_packet box m else box

-- the inbox after these arrivals, in their order
abbrev pub after_arrivals : Mailbox → List PacketValue → Mailbox
after_arrivals box [] = box
after_arrivals box (m ∷ ms) = after_arrivals (after_arrival box m) ms

-- the inbox without the packet at this index
abbrev pub without : Mailbox → ℕ → Mailbox
without box index = record { packets = remove box.packets index; accepted = box.accepted }

-- the inbox without the first packet that passes the test, if one does
abbrev pub without_match : (PacketValue → Bool) → Mailbox → Mailbox
without_match test box = record { packets = without_first test box.packets; accepted = box.accepted }

-- the message's source is a rank, and its number is one of those that were accepted from there
pub record WasAccepted (accepted : List ℕ) (m : PacketValue) : Type 0 where
  pub source : m.source < length accepted
  pub least : 1 ≤ m.number
  pub number : m.number ≤ slice_index accepted m.source

-- of one source the earlier packet has the lower number
abbrev pub RisesTo : PacketValue → PacketValue → Type 0
RisesTo m n = m.source ≡ n.source → m.number < n.number

-- each packet was accepted, the numbers of one source rise, and no number passes the greatest
pub record IsMailbox (box : Mailbox) : Type 0 where
  pub each : All (WasAccepted box.accepted) box.packets
  pub rising : AllPairs RisesTo box.packets
  pub counts : All (λ n. n ≤ greatest_clock) box.accepted

-- a packet of this source has a lower number
abbrev pub is_below : ℕ → ℕ → PacketValue → Bool
is_below source number m = not (m.source == source) || nat_lt m.number number

-- a packet with this source and number can stand behind those of the inbox: it was accepted, and
-- those of its source have lower numbers
abbrev pub may_follow : Mailbox → ℕ → ℕ → Bool
may_follow box source number =
    (nat_le 1 number && nat_le number (accepted_from box source)) && list_all (is_below source number) box.packets

-- the inbox with this packet last; it was counted before
abbrev pub with_last : Mailbox → PacketValue → Mailbox
with_last box m = record { packets = box.packets ++ m ∷ []; accepted = box.accepted }
