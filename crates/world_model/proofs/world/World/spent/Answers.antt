use Rattle.bare_world.proofs.Ending.QuietRanks.{unspent_next}
use Rattle.world_model.proofs.world.World.spent.Goals as goal

-- src/world/finishing/resting.rt
pub loop-rank-preserved : goal.loop-rank-preserved
loop-rank-preserved c = unspent_next _ _ _ c.self.view_is c.loop-rank.invariant c.in_default.ensures.none
