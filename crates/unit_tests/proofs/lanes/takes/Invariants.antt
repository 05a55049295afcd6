use Rattle.std.proofs.Common.{◌≡◌}
use Rattle.ports.specs.Lanes.{lane_from}
use Rattle.unit_tests.proofs.lanes.takes.Given as goal

abbrev pub invariant-loop : goal.invariant-loop
invariant-loop g l = lane_from l.rx ≡ lane_from l.initial.rx
