use Rattle.std.proofs.Common.{◌≡◌, ◌≤◌, ◌-◌, length}
use Rattle.crash_free.specs.Leftovers.{join_below, left_for}
use Rattle.crash_free.proofs.sim.Sim.left.Given as goal

-- what the ranks so far never received
abbrev pub invariant-loop-rank : goal.invariant-loop-rank
invariant-loop-rank l = record {
  added : l.left.items ≡ join_below (left_for (length l.fn.self.machines) l.fn.self.run) l.rank;
  within : l.rank ≤ l.ranks;
}

abbrev pub decreases-loop-rank : goal.decreases-loop-rank
decreases-loop-rank l = l.ranks - l.rank
