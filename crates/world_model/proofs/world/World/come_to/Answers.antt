use Rattle.bare_world.proofs.Again.Loops.{where_true}
use Rattle.world_model.proofs.world.World.come_to.Goals as goal

-- src/world/finishing/resting.rt
pub returns-then-quiet-clause-end : goal.returns-then-quiet-clause-end
returns-then-quiet-clause-end c = λ start rounds events still. c.stopped.ensures.end (where_true _ _ _ c.if-quiet.true still) start rounds events
