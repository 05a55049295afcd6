use Rattle.std.proofs.Common.{◌≡◌, length}
use Rattle.run_shown.specs.World.Acts.{in_row}
use Rattle.run_shown.proofs.world.acts.in_row.Given as goal

-- none of those before stands for the act
abbrev pub invariant-loop-rest : goal.invariant-loop-rest
invariant-loop-rest l = in_row l.rest l.clock ≡ in_row l.row l.clock

abbrev pub decreases-loop-rest : goal.decreases-loop-rest
decreases-loop-rest l = length l.rest
