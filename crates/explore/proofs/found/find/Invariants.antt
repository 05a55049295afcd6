use Rattle.std.proofs.Common.{◌≢◌, ◌<◌, ◌-◌, ℕ, Some, length, slice_get}
use Rattle.explore.specs.Explored.{rank_outcomes}
use Rattle.explore.proofs.found.find.Given as goal

-- it stands at none of the places so far
abbrev pub invariant-loop-place : goal.invariant-loop-place
invariant-loop-place l = (i : ℕ) → i < l.place → slice_get (rank_outcomes l.outcomes) i ≢ Some l.ranks

abbrev pub decreases-loop-place : goal.decreases-loop-place
decreases-loop-place l = length l.outcomes - l.place
