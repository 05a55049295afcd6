use Rattle.std.proofs.Common.{subst}
use Rattle.bare_world.specs.World.{WorldValue}
use Rattle.bare_world.specs.Finished.{AllRest, IsStill, IsNowhereSpent}
use Rattle.bare_world.proofs.Ending.StillIsEnd.{still_rests}
use Rattle.world_model.proofs.world.World.law_still.Goals as goal

-- src/world/finishing/resting.rt
pub returns : goal.returns
returns c =
    subst (λ (w : WorldValue). IsStill w → IsNowhereSpent w → AllRest w) c.self.view_is
    (λ still unspent. still_rests c.self.inside.bare c.self.invariant still unspent)
