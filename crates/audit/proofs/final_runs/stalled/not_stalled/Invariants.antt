use Rattle.std.proofs.Common.{◌≡◌, ◌≤◌, ◌<◌, ◌-◌, ℕ, Some, length, slice_get}
use Rattle.crash_free.specs.Sim.{start_of}
use Rattle.audit.specs.declared.outcome.End.TheVariants as end
use Rattle.audit.specs.FinalRuns.Final.{HasStalled}
use Rattle.audit.proofs.final_runs.stalled.not_stalled.Given as goal

-- each of the ranks so far that is said to have stalled has
abbrev pub invariant-loop-rank : goal.invariant-loop-rank
invariant-loop-rank l = record {
  within : l.rank ≤ l.ranks;
  each : (r : ℕ) → r < l.rank → slice_get l.ends r ≡ Some end.Stalled
      → HasStalled (start_of l.run.program (length l.run.machines)) (length l.run.machines) l.run.run l.ends r;
}

abbrev pub decreases-loop-rank : goal.decreases-loop-rank
decreases-loop-rank l = l.ranks - l.rank
