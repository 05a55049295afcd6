use Rattle.std.proofs.Common.{◌++◌, ◌-◌, ◌≡◌, ◌≤◌}
use Rattle.std.specs.Prelude.{reverse, take}
use Rattle.crash_free.specs.Sim.{Simulates}
use Rattle.explore.specs.Searching.{IsAlike}
use Rattle.explore.specs.Stops.{KeepsStops}
use Rattle.explore.proofs.taking.make_again.Given as goal

-- the acts so far were made again, and a search can go back from there
abbrev pub invariant-loop-at : goal.invariant-loop-at
invariant-loop-at l = record {
  low : l.at ≤ l.count;
  made : l.path.sim.run ≡ reverse (take l.at l.acts) ++ l.initial.path.sim.run;
  alike : IsAlike l.initial.path.sim l.path.sim;
  stands : Simulates l.path.sim;
  back : KeepsStops l.initial.path.sim l.initial.path.left l.initial.stops l.path.sim l.path.left l.stops;
}

abbrev pub decreases-loop-at : goal.decreases-loop-at
decreases-loop-at l = l.count - l.at
