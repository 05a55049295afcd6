use Rattle.std.proofs.Common.{ℕ, ◌<◌, ◌-◌}
use Rattle.run_events.specs.Scripted.{IsBack}
use Rattle.run_events.proofs.scripted.are_back.Given as goal

-- the ranks so far
abbrev pub invariant-loop-rank : goal.invariant-loop-rank
invariant-loop-rank l = (r : ℕ) → r < l.rank → IsBack l.world r

abbrev pub decreases-loop-rank : goal.decreases-loop-rank
decreases-loop-rank l = l.ranks - l.rank
