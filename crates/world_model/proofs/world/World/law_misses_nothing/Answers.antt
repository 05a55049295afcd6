use Rattle.std.proofs.Common.{subst}
use Rattle.bare_world.specs.World.{WorldValue, start_of}
use Rattle.bare_world.specs.Misses.{NoneMissed}
use Rattle.bare_world.proofs.Headline.{none_missed}
use Rattle.world_model.proofs.world.World.law_misses_nothing.Goals as goal

-- src/world.rt
pub returns : goal.returns
returns c = subst (λ (w : WorldValue). NoneMissed (start_of w) w.run) c.self.view_is (none_missed c.self.inside.bare c.self.invariant.stands)
