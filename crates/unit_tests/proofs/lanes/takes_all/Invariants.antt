use Rattle.std.proofs.Common.{◌≡◌}
use Rattle.ports.specs.Lanes.{lane_from}
use Rattle.unit_tests.proofs.lanes.takes_all.Given as goal

abbrev pub invariant-loop-number : goal.invariant-loop-number
invariant-loop-number g l = lane_from l.rx ≡ lane_from l.fn.rx
