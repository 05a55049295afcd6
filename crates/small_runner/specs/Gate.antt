-- What waits first at a gate.
use Rattle.std.specs.Prelude.{List, Option, slice_get, option_and_then}
use Rattle.event_logger.specs.Sequential.Event.{EventValue}
use Rattle.rank_node.specs.Waiting.{event_in}
use Rattle.rank_node.specs.declared.waiting.Waiting.{Waiting}

-- the oldest of what waits, if it is an event
abbrev pub first_event : List Waiting → Option EventValue
first_event xs = option_and_then event_in (slice_get xs 0)
