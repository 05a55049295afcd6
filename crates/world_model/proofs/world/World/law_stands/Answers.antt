use Rattle.std.proofs.Common.{subst}
use Rattle.bare_world.specs.Headline.{StandsFor}
use Rattle.bare_world.specs.Retained.{NothingGone}
use Rattle.bare_world.proofs.Sequences.{world_stands, world_retains}
use Rattle.world_model.proofs.world.World.law_stands.Goals as goal

pub returns-clause-stands : goal.returns-clause-stands
returns-clause-stands c = subst (λ w. StandsFor w w.run) c.self.view_is (world_stands c.self.inside.bare c.self.invariant)

pub returns-clause-nothing_gone : goal.returns-clause-nothing_gone
returns-clause-nothing_gone c = subst (λ w. NothingGone w w.run) c.self.view_is (world_retains c.self.inside.bare c.self.invariant)
