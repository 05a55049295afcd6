use Rattle.std.proofs.Common.{◌≡◌, ◌≤◌, length}
use Rattle.crash_free.specs.Points.{replaced}
use Rattle.crash_free.proofs.sim.copying.replace.Given as goal

-- those that are left make the same of the machines as all did at first
abbrev pub invariant-loop-other : goal.invariant-loop-other
invariant-loop-other l = record {
  within : length l.others.items ≤ length l.machines.items;
  same : replaced l.machines.items l.others.items ≡ replaced l.initial.machines.items l.initial.others.items;
}

abbrev pub decreases-loop-other : goal.decreases-loop-other
decreases-loop-other l = length l.others.items
