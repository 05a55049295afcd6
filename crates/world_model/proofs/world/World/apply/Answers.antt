use Rattle.bare_world.proofs.Sequences.{kept, world_stands, world_retains}
use Rattle.world_model.proofs.world.World.apply.Goals as goal

-- src/world.rt
pub invariant_of-self : goal.invariant_of-self
invariant_of-self c = kept _ _ c.args.event c.apply.result c.self.invariant c.apply.ensures.follows c.apply.ensures.err

-- src/world.rt
pub returns-clause-stands : goal.returns-clause-stands
returns-clause-stands c = world_stands _ (kept _ _ c.args.event c.apply.result c.self.invariant c.apply.ensures.follows c.apply.ensures.err)

-- src/world.rt
pub returns-clause-nothing_gone : goal.returns-clause-nothing_gone
returns-clause-nothing_gone c =
    world_retains _ (kept _ _ c.args.event c.apply.result c.self.invariant c.apply.ensures.follows c.apply.ensures.err)
