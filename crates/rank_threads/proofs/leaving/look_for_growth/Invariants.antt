use Rattle.std.proofs.Common.{◌≡◌, false}
use Rattle.rank_threads.specs.Lives.{KeepsGate}
use Rattle.rank_threads.proofs.leaving.look_for_growth.Given as goal

-- the life stays the same, and where no row has grown so does what is counted
abbrev pub invariant-loop-of : goal.invariant-loop-of
invariant-loop-of l = record {
  quiet : l.went_on ≡ false → l.life.kit.tally ≡ l.fn.life.kit.tally;
  tally : l.life.kit.tally ≡ record l.fn.life.kit.tally { seen = l.life.kit.tally.seen };
  kept : KeepsGate l.fn.life l.life;
}
