-- What recovery, and being ready for it, costs a rank over all its lives: lost work (acts made
-- again), retransmissions, checkpoints, the payload log and its garbage collection.
-- Source: the measures of rollback recovery in Elnozahy, Alvisi, Wang and Johnson 2002, "A Survey
-- of Rollback-Recovery Protocols in Message-Passing Systems".
use Rattle.std.specs.Prelude.{ℕ, ◌+◌, ◌-◌, ◌*◌, ◌^◌, min, nat_lt, if◌then◌else◌, Option}
use Rattle.std.specs.Prelude.{Some, None, List, [], ◌∷◌, length, replicate, slice_index_or, slice_set}
use Rattle.limits.specs.Limits.{most_ranks}
use Rattle.matching.specs.PacketValue.{PacketValue}
use Rattle.payload_log.specs.Backlog.{BacklogValue}
use Rattle.rank_node.specs.Phases.{stable_in}
use Rattle.rank_node.specs.declared.frame.Frame.{Frame}
use Rattle.rank_node.specs.declared.frame.Frame.TheVariants as frame
use Rattle.rank_node.specs.declared.phase.Phase.TheVariants as phase
use Rattle.rank_threads.specs.Phases.{Phase, last_image}
use Rattle.rank_threads.specs.Tally.{one_more}
use Rattle.rank_threads.specs.declared.costs.Costs.{Costs}
use Rattle.rank_threads.specs.declared.costs.FrameKind.{FrameKind}
use Rattle.rank_threads.specs.declared.costs.FrameKind.TheVariants as kind
use Rattle.rank_threads.specs.declared.costs.LogSize.{LogSize}
use Rattle.rank_threads.specs.declared.meter.Meter.{Meter}
use Rattle.rank_threads.specs.declared.turn.stepping.Stepped.{Stepped}
use Rattle.rank_threads.specs.declared.turn.stepping.Stepped.TheVariants as stepped

-- a payload log that keeps nothing
abbrev pub no_log : LogSize
no_log = record { messages = 0; bytes = 0 }

-- nothing is counted yet
abbrev pub no_costs : Costs
no_costs = record {
  acts = 0;
  acts_again = 0;
  messages = 0;
  messages_again = 0;
  asks = 0;
  notices = 0;
  images = 0;
  image_bytes = 0;
  kept = no_log;
  kept_most = no_log;
  dropped = 0;
}

-- nothing is counted yet, and the rank has made no act and sent no message
abbrev pub new_meter : Meter
new_meter = record { clock = 0; numbers = replicate most_ranks 0; costs = no_costs }

-- so many more, up to the greatest `u64`
abbrev pub plus : ℕ → ℕ → ℕ
plus count by = min (count + by) (2 ^ 64 - 1)

-- After the act of this clock: one more if the rank was never there, else one that is made again.
abbrev pub after_act : Meter → ℕ → Meter
after_act m clock =
    if nat_lt m.clock clock
    then record m { clock = clock; costs = record m.costs { acts = one_more m.costs.acts } }
    else record m { costs = record m.costs { acts_again = one_more m.costs.acts_again } }

-- after a turn's step, at this clock: only an act is counted
abbrev pub after_step : Meter → Stepped → ℕ → Meter
after_step m stepped.Acted clock = after_act m clock
after_step m stepped.Moved clock = m
after_step m stepped.Blocked clock = m
after_step m stepped.Held clock = m
after_step m stepped.Ended clock = m

-- what a frame is: a message with its number, a retransmission request, a garbage-collection notice
abbrev pub kind_of : Frame → FrameKind
kind_of (frame.Data packet) = kind.Message packet.number
kind_of (frame.Ask number) = kind.Ask
kind_of (frame.Kept number) = kind.Notice

-- After the message of this number to a rank: one more if none of this number or a greater one went
-- there before, else one that is sent again.
abbrev pub after_message : Meter → ℕ → ℕ → Meter
after_message m dest number =
    if nat_lt (slice_index_or m.numbers dest 0) number
    then record m { numbers = slice_set m.numbers dest number; costs = record m.costs { messages = one_more m.costs.messages } }
    else record m { costs = record m.costs { messages_again = one_more m.costs.messages_again } }

-- after a frame of this kind went to a rank
abbrev pub after_put : Meter → ℕ → FrameKind → Meter
after_put m dest (kind.Message number) = after_message m dest number
after_put m dest kind.Ask = record m { costs = record m.costs { asks = one_more m.costs.asks } }
after_put m dest kind.Notice = record m { costs = record m.costs { notices = one_more m.costs.notices } }

-- after frames that went to a rank, one after another
abbrev pub all_put : Meter → ℕ → List Frame → Meter
all_put m dest [] = m
all_put m dest (frame ∷ frames) = all_put (after_put m dest (kind_of frame)) dest frames

-- after an image of so many bytes
abbrev pub after_image : Meter → ℕ → Meter
after_image m bytes = record m { costs = record m.costs { images = one_more m.costs.images; image_bytes = plus m.costs.image_bytes bytes } }

-- this size, or the earlier one if that has as many messages or more
abbrev pub larger : LogSize → LogSize → LogSize
larger size earlier = if nat_lt earlier.messages size.messages then size else earlier

-- after the payload log had this size
abbrev pub after_most : Meter → LogSize → Meter
after_most m size = record m { costs = record m.costs { kept_most = larger size m.costs.kept_most } }

-- after a life that ended with a payload log of this size
abbrev pub after_log : Meter → LogSize → Meter
after_log m size = record m { costs = record m.costs { kept = size; kept_most = larger size m.costs.kept_most } }

-- after a frame that is dropped
abbrev pub one_dropped : Meter → Meter
one_dropped m = record m { costs = record m.costs { dropped = one_more m.costs.dropped } }

-- after frames that are dropped, one after another
abbrev pub all_dropped : Meter → List Frame → Meter
all_dropped m [] = m
all_dropped m (frame ∷ frames) = all_dropped (one_dropped m) frames

-- the payload log of the rank; empty if the rank is down
abbrev pub log_in : Phase → List BacklogValue
log_in (phase.Running v) = v.log
log_in (phase.Replaying r) = r.node.log
log_in (phase.Down s) = []

-- how many messages these destinations keep, counted on from this number
abbrev pub messages_from : ℕ → List BacklogValue → ℕ
messages_from count [] = count
messages_from count (b ∷ bs) = messages_from (plus count (length b.kept)) bs

-- how many bytes the items of these messages have, 8 an item, counted on from this number
abbrev pub payload_from : ℕ → List PacketValue → ℕ
payload_from count [] = count
payload_from count (p ∷ ps) = payload_from (plus count (8 * length p.items)) ps

-- how many the messages have that these destinations keep
abbrev pub bytes_from : ℕ → List BacklogValue → ℕ
bytes_from count [] = count
bytes_from count (b ∷ bs) = bytes_from (payload_from count b.kept) bs

-- how much the rank's payload log keeps; what it holds at the gate isn't counted
abbrev pub log_size_in : Phase → LogSize
log_size_in p = record { messages = messages_from 0 (log_in p); bytes = bytes_from 0 (log_in p) }

-- how many bytes an image has; none if there is none
abbrev pub image_size : Option (List ℕ) → ℕ
image_size None = 0
image_size (Some bytes) = length bytes

-- how many bytes the last image on the rank's shelf has
abbrev pub image_size_in : Phase → ℕ
image_size_in p = image_size (last_image (stable_in p).shelf)

-- what is measured before a frame arrives: a notice may let messages go
abbrev pub before_kind : Meter → FrameKind → LogSize → Meter
before_kind m (kind.Message number) size = m
before_kind m kind.Ask size = m
before_kind m kind.Notice size = after_most m size
