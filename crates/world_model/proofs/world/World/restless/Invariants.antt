use Rattle.std.proofs.Common.{ℕ, ◌<◌}
use Rattle.bare_world.specs.Finished.{RestsAt}
use Rattle.world_model.proofs.world.World.restless.Given as goal

abbrev pub invariant-loop-rank : goal.invariant-loop-rank
invariant-loop-rank l = (r : ℕ) → r < l.rank → RestsAt l.self r
