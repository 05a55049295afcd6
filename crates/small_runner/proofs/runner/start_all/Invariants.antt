use Rattle.std.proofs.Common.{◌≡◌, length}
use Rattle.small_runner.proofs.runner.start_all.Given as goal

abbrev pub invariant-loop-number : goal.invariant-loop-number
invariant-loop-number l = length l.ranks.items ≡ l.number
