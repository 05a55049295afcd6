use Rattle.std.proofs.Common.{◌≡◌, ◌≤◌, length, take}
use Rattle.limits.specs.Limits.{greatest_clock}
use Rattle.audit.specs.Rows.{expand}
use Rattle.audit.specs.Counts.{ends_from}
use Rattle.audit.proofs.counts.ActCounts.of.Given as goal

-- the numbers of the events so far
abbrev pub invariant-loop-event : goal.invariant-loop-event
invariant-loop-event l = record {
  ends : l.ends.items ≡ ends_from 0 (take l.event-index l.events);
  total : l.total ≡ length (expand (take l.event-index l.events));
  few : l.total ≤ greatest_clock;
}
