use Rattle.std.proofs.Common.{◌≤◌, length, take}
use Rattle.limits.specs.Limits.{most_ranks}
use Rattle.run_shown.specs.Trace.Clocks.{AreCounted}
use Rattle.run_shown.specs.Trace.Places.{ArePlaces}
use Rattle.run_shown.proofs.trace.places.places_of.Given as goal

-- the acts so far were made, and their clocks are counted
abbrev pub invariant-loop-passed : goal.invariant-loop-passed
invariant-loop-passed l = record {
  made : ArePlaces l.initial.sim (take l.passed-index l.acts) l.places.items l.sim;
  counted : AreCounted l.sim.run l.clocks;
  few : length l.sim.machines ≤ most_ranks;
}
