use Rattle.std.proofs.Common.{◌≡◌, ◌≤◌, ◌-◌, ◌++◌, take, drop, length}
use Rattle.crash_free.specs.Points.{replaced}
use Rattle.crash_free.proofs.sim.copying.copy_moved.Given as goal

-- those so far are the others
abbrev pub invariant-loop-rank : goal.invariant-loop-rank
invariant-loop-rank l = record {
  within : l.rank ≤ length l.others;
  count : length l.copies.items ≡ l.rank;
  same : replaced l.machines l.copies.items ≡ take l.rank l.others ++ drop l.rank l.machines;
}

abbrev pub decreases-loop-rank : goal.decreases-loop-rank
decreases-loop-rank l = length l.others - l.rank
