use Rattle.world_model.proofs.world.World.stopped.Goals as goal

-- src/world/finishing/resting.rt
pub returns-in-None-clause-end : goal.returns-in-None-clause-end
returns-in-None-clause-end c = λ still start rounds events.
    (let rest = c.law_still.ensures still c.in-None.ensures.none in
    (c.law_rests.ensures rest, rest))
