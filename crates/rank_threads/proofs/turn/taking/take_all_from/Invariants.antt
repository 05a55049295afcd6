use Rattle.std.proofs.Common.{◌≡◌, ◌+◌, ◌<◌}
use Rattle.rank_threads.specs.Lives.{KeepsGate}
use Rattle.rank_threads.specs.Taking.{TookFrom}
use Rattle.rank_threads.proofs.LookLemmas.{IsNoted}
use Rattle.rank_threads.proofs.turn.taking.take_all_from.Given as goal

-- from the first look on the lane is noted, what came so far has arrived, and the life stays the same
abbrev pub invariant-loop : goal.invariant-loop
invariant-loop g l = record {
  noted : IsNoted l.source l.looked.below;
  looked : 0 < l.counter → l.looked.below ≡ l.source + 1;
  so_far : TookFrom l.source l.fn.life l.life l.took;
  kept : KeepsGate l.fn.life l.life;
}
