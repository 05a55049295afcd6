use Rattle.std.proofs.Common.{ℕ, ◌<◌, ◌-◌}
use Rattle.explore.specs.Settled.{IsSettled}
use Rattle.explore.proofs.persistent.are_settled.Given as goal

-- the sources so far are settled
abbrev pub invariant-loop-source : goal.invariant-loop-source
invariant-loop-source l = record {
  settled : (q : ℕ) → q < l.source → IsSettled l.sim l.rank l.selector q;
}

abbrev pub decreases-loop-source : goal.decreases-loop-source
decreases-loop-source l = l.ranks - l.source
