use Rattle.explore.proofs.Stopping.{IsClosestBy}
use Rattle.explore.proofs.stops.Stops.closest.Given as goal

-- the closest of the stops so far
abbrev pub invariant-loop-stop : goal.invariant-loop-stop
invariant-loop-stop l = IsClosestBy l.self l.stop-items l.stop-index l.closest
