use Rattle.std.proofs.Common.{◌-◌}
use Rattle.run_events.proofs.asked.has_none.Given as goal

abbrev pub decreases-loop-source : goal.decreases-loop-source
decreases-loop-source l = l.ranks - l.source
