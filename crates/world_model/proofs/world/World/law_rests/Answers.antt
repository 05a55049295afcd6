use Rattle.std.proofs.Common.{subst}
use Rattle.bare_world.specs.World.{WorldValue}
use Rattle.bare_world.specs.ToTheEnd.{HasEnded}
use Rattle.bare_world.specs.Finished.{AllRest}
use Rattle.bare_world.proofs.Ending.RestIsEnd.{all_rest}
use Rattle.world_model.proofs.world.World.law_rests.Goals as goal

-- src/world/finishing/resting.rt
pub returns : goal.returns
returns c = subst (λ (w : WorldValue). AllRest w → HasEnded w) c.self.view_is (λ all. all_rest c.self.inside.bare c.self.invariant all)
