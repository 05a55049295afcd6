use Rattle.bare_world.specs.Finished.{no_steps}
use Rattle.bare_world.proofs.Ending.IsPlayedOn.{quiet_last, arrive_quiet}
use Rattle.world_model.proofs.world.World.pass.Goals as goal

-- src/world/finishing.rt
pub returns-clause-ok : goal.returns-clause-ok
returns-clause-ok c =
    quiet_last no_steps _ _ _ _ _ _ c.in_ok-reply.ensures.ok (arrive_quiet _ _ _ _ _ _ _ _ c.arrive.ensures c.in_ok-play.ensures.ok)
