use Rattle.std.proofs.Common.{◌≡◌, ◌+◌, ◌<◌}
use Rattle.rank_threads.specs.Dropping.{DroppedFrom, OnlyDrops}
use Rattle.rank_threads.proofs.LookLemmas.{IsNoted}
use Rattle.rank_threads.proofs.life.dropping.drop_from.Given as goal

-- from the first look on the lane is noted; and what stays
abbrev pub invariant-loop : goal.invariant-loop
invariant-loop l = record {
  noted : IsNoted l.source l.looked.below;
  looked : 0 < l.counter → l.looked.below ≡ l.source + 1;
  dropped : DroppedFrom l.source l.fn.station l.station;
  only : OnlyDrops l.fn.station l.station;
}
