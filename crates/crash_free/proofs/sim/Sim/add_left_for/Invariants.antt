use Rattle.std.proofs.Common.{◌≡◌, ◌≤◌, ◌-◌, ◌++◌}
use Rattle.crash_free.specs.Leftovers.{join_below, left_of}
use Rattle.crash_free.proofs.sim.Sim.add_left_for.Given as goal

-- what the sources so far sent
abbrev pub invariant-loop-source : goal.invariant-loop-source
invariant-loop-source l = record {
  added : l.out.items ≡ l.initial.out.items ++ join_below (left_of l.fn.self.run l.fn.rank) l.source;
  within : l.source ≤ l.ranks;
}

abbrev pub decreases-loop-source : goal.decreases-loop-source
decreases-loop-source l = l.ranks - l.source
