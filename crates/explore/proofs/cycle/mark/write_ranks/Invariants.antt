use Rattle.std.proofs.Common.{◌≡◌, ◌-◌, ◌≤◌}
use Rattle.crash_free.specs.Standing.{no_rows, and_rank, and_below}
use Rattle.explore.proofs.cycle.mark.write_ranks.Given as goal

-- the ranks so far are written
abbrev pub invariant-loop-rank : goal.invariant-loop-rank
invariant-loop-rank l = record {
  written : l.out ≡ and_below (and_rank l.live l.sim) no_rows l.rank;
  low : l.rank ≤ l.ranks;
}

abbrev pub decreases-loop-rank : goal.decreases-loop-rank
decreases-loop-rank l = l.ranks - l.rank
