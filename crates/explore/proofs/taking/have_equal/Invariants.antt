use Rattle.std.proofs.Common.{◌≡◌, ℕ, ◌<◌, ◌≤◌, ◌-◌, true, Some, length}
use Rattle.std.specs.Prelude.{slice_get, slice_index}
use Rattle.limits.specs.Limits.{most_ranks}
use Rattle.explore.proofs.taking.have_equal.Given as goal

-- the marks of the ranks so far
abbrev pub invariant-loop-rank : goal.invariant-loop-rank
invariant-loop-rank l = record {
  within : l.rank ≤ most_ranks;
  size : length l.equal ≡ most_ranks;
  same : (r : ℕ) → slice_get l.equal r ≡ Some true → slice_index l.left r ≡ slice_index l.there r;
  all : (r : ℕ) → r < l.rank → slice_index l.left r ≡ slice_index l.there r → slice_get l.equal r ≡ Some true;
}

abbrev pub decreases-loop-rank : goal.decreases-loop-rank
decreases-loop-rank l = most_ranks - l.rank
