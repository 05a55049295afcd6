use Rattle.std.proofs.Common.{refl}
use Rattle.std.proofs.lemmas.Bool.{OnFalse_at}
use Rattle.bare_world.specs.Finished.{no_steps}
use Rattle.bare_world.proofs.Ending.IsPlayedOn.{played_same}
use Rattle.bare_world.proofs.Ending.TriedInVain.{tried_no_packet}
use Rattle.world_model.proofs.world.World.find_at.Goals as goal

-- src/world/finishing.rt
pub returns-then-not-has_packet-clause-ok : goal.returns-then-not-has_packet-clause-ok
returns-then-not-has_packet-clause-ok c = played_same no_steps _ _ _ _ refl refl

-- src/world/finishing.rt
pub returns-then-not-has_packet-clause-tried : goal.returns-then-not-has_packet-clause-tried
returns-then-not-has_packet-clause-tried c = tried_no_packet _ _ _ _ _ (OnFalse_at c.if-not-has_packet.true c.has_packet.ensures.no)
