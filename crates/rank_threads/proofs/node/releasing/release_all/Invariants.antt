use Rattle.std.proofs.Common.{◌≡◌, length}
use Rattle.rank_threads.specs.Phases.{SameStable}
use Rattle.rank_threads.proofs.node.releasing.release_all.Given as goal

abbrev pub invariant-loop : goal.invariant-loop
invariant-loop g l = record {
  stable : l.rank.stable ≡ l.fn.rank.stable;
  clock : l.rank.clock ≡ l.fn.rank.clock;
}

abbrev pub decreases-loop : goal.decreases-loop
decreases-loop g l = l.rank.stored

abbrev pub invariant-loop-rank : goal.invariant-loop-rank
invariant-loop-rank g l = record {
  stored : l.rank.stored ≡ 0;
  shelf : l.rank.stable.shelf ≡ l.fn.rank.stable.shelf;
  clock : l.rank.clock ≡ l.fn.rank.clock;
  same : SameStable l.fn.rank.stable l.rank.stable;
}

-- a release takes one off what waits, and so do a store and its acknowledgment
abbrev pub decreases-loop-rank : goal.decreases-loop-rank
decreases-loop-rank g l = length l.rank.pending
