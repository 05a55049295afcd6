use Rattle.std.proofs.Common.{◌≡◌, ◌+◌, ◌++◌, length}
use Rattle.runner.specs.Unhalted.{ranks_of}
use Rattle.runner.proofs.explored.unhalted.ranks_ending.Given as goal

-- those that were found and those of the ranks that are left are all
abbrev pub invariant-loop-rest : goal.invariant-loop-rest
invariant-loop-rest l = record {
  within : l.rank + length l.rest ≡ length l.ranks;
  whole : l.found.items ++ ranks_of l.ending l.rank l.rest ≡ ranks_of l.ending 0 l.ranks;
}

abbrev pub decreases-loop-rest : goal.decreases-loop-rest
decreases-loop-rest l = length l.rest
