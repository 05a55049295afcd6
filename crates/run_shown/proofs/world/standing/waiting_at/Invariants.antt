use Rattle.std.specs.Prelude.{length, ◌-◌}
use Rattle.run_shown.proofs.WorldLaws.Reading.{IsReadSoFar}
use Rattle.run_shown.proofs.world.standing.waiting_at.Given as goal

abbrev pub invariant-loop-waiting : goal.invariant-loop-waiting
invariant-loop-waiting l = IsReadSoFar l.rank.pending l.list.items

abbrev pub decreases-loop-waiting : goal.decreases-loop-waiting
decreases-loop-waiting l = length l.rank.pending - length l.list.items
