use Rattle.bare_world.proofs.Ending.IsPlayedOn.{whole_after, almost_whole}
use Rattle.world_model.proofs.world.World.finish.Goals as goal

-- src/world/finishing.rt
pub returns-in-Ok-clause-after : goal.returns-in-Ok-clause-after
returns-in-Ok-clause-after c = whole_after _ _ _ _ _ c.new-events.ensures.items c.in-Ok.ensures.ok

-- src/world/finishing.rt
pub returns-in-Err-clause-after : goal.returns-in-Err-clause-after
returns-in-Err-clause-after c = almost_whole _ _ _ _ _ c.new-events.ensures.items c.in-Err.ensures.err
