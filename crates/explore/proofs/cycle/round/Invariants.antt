use Rattle.std.proofs.Common.{◌≡◌, ◌-◌, length}
use Rattle.explore.specs.Cycles.{GoesFurther}
use Rattle.explore.proofs.cycle.round.Given as goal

-- the ranks went further
abbrev pub invariant-loop-rank : goal.invariant-loop-rank
invariant-loop-rank l = record {
  further : GoesFurther l.mode l.fn.path.sim l.path.sim;
  ranks : length l.path.sim.machines ≡ l.ranks;
}

abbrev pub decreases-loop-rank : goal.decreases-loop-rank
decreases-loop-rank l = l.ranks - l.rank
