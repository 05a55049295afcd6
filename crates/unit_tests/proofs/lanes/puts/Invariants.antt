use Rattle.std.proofs.Common.{◌≡◌}
use Rattle.ports.specs.Lanes.{lane_to}
use Rattle.unit_tests.proofs.lanes.puts.Given as goal

abbrev pub invariant-loop : goal.invariant-loop
invariant-loop g l = lane_to l.tx ≡ lane_to l.initial.tx
