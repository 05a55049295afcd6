use Rattle.std.proofs.Common.{◌≡◌, length}
use Rattle.small_runner.proofs.gate.clear.Given as goal

abbrev pub invariant-loop-rank : goal.invariant-loop-rank
invariant-loop-rank l = (l.rank.stable ≡ l.fn.rank.stable) × (length l.logger.rows ≡ length l.fn.logger.rows)

-- whatever passes is one less
abbrev pub decreases-loop-rank : goal.decreases-loop-rank
decreases-loop-rank l = length l.rank.pending
