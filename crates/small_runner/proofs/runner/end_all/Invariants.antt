use Rattle.std.proofs.Common.{length}
use Rattle.small_runner.proofs.runner.end_all.Given as goal

-- each round ends one rank
abbrev pub decreases-loop-rank : goal.decreases-loop-rank
decreases-loop-rank l = length l.ranks.items
