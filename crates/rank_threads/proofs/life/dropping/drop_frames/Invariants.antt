use Rattle.std.proofs.Common.{◌≡◌}
use Rattle.rank_threads.specs.Dropping.{DroppedBelow, OnlyDrops}
use Rattle.rank_threads.proofs.life.dropping.drop_frames.Given as goal

-- the lanes so far were looked at; and what stays
abbrev pub invariant-loop-source : goal.invariant-loop-source
invariant-loop-source l = record {
  looked : l.looked.below ≡ l.source;
  dropped : DroppedBelow l.source l.fn.station l.station;
  only : OnlyDrops l.fn.station l.station;
}
