use Rattle.std.proofs.Common.{◌≡◌, ◌≤◌, ◌-◌, ℕ, Some, length, slice_get}
use Rattle.crash_free.specs.Sim.{start_of}
use Rattle.audit.specs.FinalRuns.Maximal.{RankOutcome}
use Rattle.explore.specs.Sending.{IsRankOutcomeUnder}
use Rattle.explore.proofs.outcome.outcome_of.Given as goal

-- the ranks so far
abbrev pub invariant-loop-rank : goal.invariant-loop-rank
invariant-loop-rank l = record {
  within : l.rank ≤ l.ranks;
  as_many : length l.ends.items ≡ l.rank;
  each : (r : ℕ) (x : RankOutcome) → slice_get l.ends.items r ≡ Some x
      → IsRankOutcomeUnder l.mode (start_of l.sim.program (length l.sim.machines)) (length l.sim.machines) l.sim.run r x;
}

abbrev pub decreases-loop-rank : goal.decreases-loop-rank
decreases-loop-rank l = l.ranks - l.rank
