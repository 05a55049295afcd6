use Rattle.std.proofs.Common.{◌≡◌}
use Rattle.ports.specs.Lanes.{lane_to}
use Rattle.unit_tests.proofs.lanes.puts_all.Given as goal

abbrev pub invariant-loop-number : goal.invariant-loop-number
invariant-loop-number g l = lane_to l.tx ≡ lane_to l.fn.tx
