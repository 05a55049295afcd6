use Rattle.std.proofs.Common.{◌≡◌, ◌++◌, length, string_bytes}
use Rattle.world_model.specs.EventsText.Written.{events_text}
use Rattle.world_model.proofs.events_text.written.events_text.Given as goal

-- what is written and the events that are left are the whole
abbrev pub invariant-loop-rest : goal.invariant-loop-rest
invariant-loop-rest l = string_bytes l.text ++ events_text l.rest ≡ events_text l.events

abbrev pub decreases-loop-rest : goal.decreases-loop-rest
decreases-loop-rest l = length l.rest
