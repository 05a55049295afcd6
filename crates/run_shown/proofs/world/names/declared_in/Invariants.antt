use Rattle.std.proofs.Common.{length}
use Rattle.run_shown.proofs.world.names.declared_in.Given as goal

abbrev pub decreases-loop-line : goal.decreases-loop-line
decreases-loop-line l = length l.rest
