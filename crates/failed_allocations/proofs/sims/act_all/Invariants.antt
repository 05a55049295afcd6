use Rattle.std.proofs.Common.{◌≡◌, length}
use Rattle.failed_allocations.proofs.sims.act_all.Given as goal

-- there are two ranks
abbrev pub invariant-loop-one : goal.invariant-loop-one
invariant-loop-one l = length l.sim.machines ≡ 2
