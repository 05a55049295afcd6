use Rattle.std.proofs.Common.{◌≡◌, length}
use Rattle.small_runner.proofs.around.wires.Given as goal

abbrev pub invariant-loop : goal.invariant-loop
invariant-loop l = length l.wires.items ≡ l.counter
