use Rattle.std.proofs.Common.{subst}
use Rattle.bare_world.specs.Headline.{StandsFor}
use Rattle.bare_world.specs.Retained.{NothingGone}
use Rattle.bare_world.proofs.Sequences.{world_fresh, world_stands, world_retains}
use Rattle.world_model.proofs.world.World.new.Goals as goal

-- src/world.rt
pub invariant_of-result : goal.invariant_of-result
invariant_of-result c = world_fresh _ c.args.ranks c.in_ok-bare.bare c.in_ok-bare.ensures

-- src/world.rt
pub returns-clause-stands : goal.returns-clause-stands
returns-clause-stands c =
    subst (λ C. StandsFor c.in_ok-bare.bare C) c.in_ok-bare.ensures.run
    (world_stands c.in_ok-bare.bare (world_fresh _ c.args.ranks c.in_ok-bare.bare c.in_ok-bare.ensures))

-- src/world.rt
pub returns-clause-nothing_gone : goal.returns-clause-nothing_gone
returns-clause-nothing_gone c =
    subst (λ C. NothingGone c.in_ok-bare.bare C) c.in_ok-bare.ensures.run
    (world_retains c.in_ok-bare.bare (world_fresh _ c.args.ranks c.in_ok-bare.bare c.in_ok-bare.ensures))
