use Rattle.std.proofs.Common.{◌<◌}
use Rattle.explore.proofs.stops.Stops.least_needed.Given as goal

-- there is one at this index
abbrev pub invariant-loop-at : goal.invariant-loop-at
invariant-loop-at l = record { within : l.at < l.count }

abbrev pub decreases-loop-at : goal.decreases-loop-at
decreases-loop-at l = l.at
