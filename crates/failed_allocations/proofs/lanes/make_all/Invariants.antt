use Rattle.std.proofs.Common.{◌≡◌}
use Rattle.ports.specs.Lanes.{lane_to, lane_from}
use Rattle.failed_allocations.proofs.lanes.make_all.Given as goal

-- the ends are of the lane that they were of
abbrev pub invariant-loop-one : goal.invariant-loop-one
invariant-loop-one l = (lane_to l.tx ≡ lane_to l.initial.tx) × (lane_from l.rx ≡ lane_from l.initial.rx)
