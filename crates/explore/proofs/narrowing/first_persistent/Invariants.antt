use Rattle.std.proofs.Common.{◌-◌}
use Rattle.explore.proofs.narrowing.first_persistent.Given as goal

abbrev pub decreases-loop-rank : goal.decreases-loop-rank
decreases-loop-rank l = l.ranks - l.rank
