use Rattle.std.proofs.Common.{◌≡◌, length}
use Rattle.crash_free.specs.Stretches.{AreBefore}
use Rattle.crash_free.proofs.sim.Sim.stretches.Given as goal

-- the stretches so far
abbrev pub invariant-loop-place : goal.invariant-loop-place
invariant-loop-place l = record {
  many : length l.stretches.items ≡ l.place;
  before : AreBefore l.self.machines l.left l.stretches.items;
}
