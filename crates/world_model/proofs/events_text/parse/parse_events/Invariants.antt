use Rattle.std.proofs.Common.{◌≡◌, ◌≤◌, ◌+◌, length}
use Rattle.rank_text.specs.Lines.Pieces.{pieces_of}
use Rattle.world_model.specs.EventsText.Events.{behind_events, events_from, events_of}
use Rattle.world_model.proofs.events_text.parse.parse_events.Given as goal

-- the events so far are in front of those of the lines that are left
abbrev pub invariant-loop-line : goal.invariant-loop-line
invariant-loop-line l = record {
  within : l.number + length l.rest ≤ length l.text + 1;
  events : behind_events l.events.items (events_from l.number (pieces_of 10 l.rest)) ≡ events_of l.text;
}

abbrev pub decreases-loop-line : goal.decreases-loop-line
decreases-loop-line l = length l.rest
