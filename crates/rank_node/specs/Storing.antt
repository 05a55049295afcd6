-- How the events of a rank, its determinants, reach its row at the event logger, and leave the rank
-- once they are acknowledged (pessimistic logging: Alvisi and Marzullo 1998, section 3).
use Rattle.std.specs.Prelude.{ℕ, ◌+◌, ◌-◌, drop, slice_get, option_and_then, Option, Some, None, ◌⊎◌}
use Rattle.event_logger.specs.Sequential.Event.{EventValue}
use Rattle.event_logger.specs.Sequential.History.{StateValue, Answers}
use Rattle.event_logger.specs.declared.sequential.call.Call.TheVariants.{Append}
use Rattle.event_logger.specs.declared.sequential.call.Reply.{Reply}
use Rattle.event_logger.specs.declared.sequential.call.Reply.TheVariants.{Full, Order}
use Rattle.rank_node.specs.Node.{Node}
use Rattle.rank_node.specs.Waiting.{event_in}

-- the oldest event that isn't stored, if there is one and no effect stands before it
abbrev pub next_unstored : {S D : Type 0} → Node S D → Option EventValue
next_unstored v = option_and_then event_in (slice_get v.pending v.stored)

-- one more of the events that wait is stored
abbrev pub after_store : {S D : Type 0} → Node S D → Node S D
after_store v = record v { stored = v.stored + 1 }

-- the oldest of what waits, which is a stored event, is acknowledged: it leaves the list
abbrev pub after_ack : {S D : Type 0} → Node S D → Node S D
after_ack v = record v { pending = drop 1 v.pending; stored = v.stored - 1 }

-- there is an event, and the logger answered its append so
abbrev pub Appends : Option EventValue → ℕ → StateValue → Reply → StateValue → Type 0
Appends None rank old reply new = ⊥
Appends (Some e) rank old reply new = Answers old rank (Append e) reply new

-- the logger refused the event by name
abbrev pub IsRefused : Option EventValue → ℕ → StateValue → StateValue → Type 0
IsRefused e rank old new = Appends e rank old Full new ⊎ Appends e rank old Order new
