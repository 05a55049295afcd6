use Rattle.std.proofs.Common.{◌≡◌, ◌≤◌, ◌++◌, length}
use Rattle.limits.specs.Limits.{most_event_lines}
use Rattle.run_events.specs.Planned.{events_in}
use Rattle.run_events.proofs.plan.spread.Given as goal

-- what is written and the parts that are left are the whole
abbrev pub invariant-loop-rest : goal.invariant-loop-rest
invariant-loop-rest l = record {
  whole : l.events.items ++ events_in l.rest ≡ events_in l.parts;
  few : length l.events.items ≤ most_event_lines;
}

abbrev pub decreases-loop-rest : goal.decreases-loop-rest
decreases-loop-rest l = length l.rest
