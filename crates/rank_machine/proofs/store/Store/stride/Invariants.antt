use Rattle.std.proofs.Common.{◌-◌, ◌≤◌}
use Rattle.rank_machine.specs.Machine.{standing, IsMachine, KeepsRank, Strides}
use Rattle.rank_machine.proofs.store.Store.stride.Given as goal

-- the steps that were made lead from where the rank stood at the call to where it stands now
abbrev pub invariant-loop-left : goal.invariant-loop-left
invariant-loop-left l = record {
  most : l.left ≤ l.most;
  machine : IsMachine (standing l.program l.position l.self);
  strides : Strides (l.most - l.left) (standing l.program l.from l.fn.self) (standing l.program l.position l.self);
  stays : KeepsRank (standing l.program l.from l.fn.self) (standing l.program l.position l.self);
}

abbrev pub decreases-loop-left : goal.decreases-loop-left
decreases-loop-left l = l.left
