use Rattle.std.proofs.Common.{◌≤◌, ◌-◌}
use Rattle.audit.specs.FinalRuns.Stills.{NoneIsThere}
use Rattle.audit.proofs.final_runs.stalled.is_there.Given as goal

-- none of the sources so far
abbrev pub invariant-loop-source : goal.invariant-loop-source
invariant-loop-source l = record {
  within : l.source ≤ l.ranks;
  none : NoneIsThere l.run l.ends l.rank l.selector l.source;
}

abbrev pub decreases-loop-source : goal.decreases-loop-source
decreases-loop-source l = l.ranks - l.source
