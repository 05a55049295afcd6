use Rattle.std.proofs.Common.{◌≡◌, ℕ, ◌<◌, ◌-◌}
use Rattle.std.specs.Prelude.{reverse}
use Rattle.explore.specs.Own.{own}
use Rattle.run_events.proofs.playing.is_there.Given as goal

-- the ranks so far
abbrev pub invariant-loop-rank : goal.invariant-loop-rank
invariant-loop-rank l = (r : ℕ) → r < l.rank → own r (reverse l.world.run) ≡ own r (reverse l.run.run)

abbrev pub decreases-loop-rank : goal.decreases-loop-rank
decreases-loop-rank l = l.ranks - l.rank
