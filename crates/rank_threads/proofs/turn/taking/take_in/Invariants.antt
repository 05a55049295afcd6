use Rattle.std.proofs.Common.{◌≡◌}
use Rattle.rank_threads.specs.Lives.{KeepsGate}
use Rattle.rank_threads.specs.Taking.{TookBelow}
use Rattle.rank_threads.proofs.turn.taking.take_in.Given as goal

-- the lanes so far were looked at, what they brought has arrived, and the life stays the same
abbrev pub invariant-loop-source : goal.invariant-loop-source
invariant-loop-source g l = record {
  looked : l.looked.below ≡ l.source;
  so_far : TookBelow l.source l.fn.life l.life l.took;
  kept : KeepsGate l.fn.life l.life;
}
