use Rattle.std.proofs.Common.{length}
use Rattle.crash_free.proofs.Stretches.{TakenUp}
use Rattle.crash_free.proofs.sim.Sim.take_up_all.Given as goal

-- the ranks of the stretches that are left stand where they did, and the others where theirs do
abbrev pub invariant-loop-stretch : goal.invariant-loop-stretch
invariant-loop-stretch l = TakenUp l.initial.self l.initial.left l.fn.stretches.items l.stretches.items l.self l.left

abbrev pub decreases-loop-stretch : goal.decreases-loop-stretch
decreases-loop-stretch l = length l.stretches.items
