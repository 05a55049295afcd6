-- A list of events, kept as runs of the same one.
use Rattle.std.specs.Prelude.{List, [], ◌∷◌, ◌++◌, replicate}
use Rattle.bare_world.specs.declared.event.WorldEvent.{WorldEvent}
use Rattle.run_events.specs.declared.times.Times.{Times}

-- each event as often as it happens in a row
abbrev pub events_in : List Times → List WorldEvent
events_in [] = []
events_in (t ∷ ts) = replicate t.count t.event ++ events_in ts
