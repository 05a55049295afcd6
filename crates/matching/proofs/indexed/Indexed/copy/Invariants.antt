use Rattle.std.proofs.Common.{◌≡◌, ◌++◌}
use Rattle.matching.proofs.indexed.Indexed.copy.Given as goal

abbrev pub invariant-loop-packet : goal.invariant-loop-packet
invariant-loop-packet l = l.copy ++ l.packet-iterator ≡ l.fn.self
