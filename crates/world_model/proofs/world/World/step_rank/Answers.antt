use Rattle.bare_world.proofs.Ending.IsPlayedOn.{step_played}
use Rattle.bare_world.proofs.Ending.TriedInVain.{step_tried}
use Rattle.bare_world.proofs.Ending.Rounds.{turn_taken}
use Rattle.world_model.proofs.world.World.step_rank.Goals as goal

-- src/world/finishing.rt
pub returns-clause-ok : goal.returns-clause-ok
returns-clause-ok c = step_played _ _ _ _ _ _ _ _ c.from-rank.ensures c.in_ok-play.ensures.ok c.in_ok-play-2.ensures.ok

-- src/world/finishing.rt
pub returns-clause-tried : goal.returns-clause-tried
returns-clause-tried c = step_tried _ _ _ _ _ _ _ _ c.from-rank.ensures c.in_ok-play.ensures.tried c.in_ok-play-2.ensures.tried

-- src/world/finishing.rt
pub returns-clause-turn : goal.returns-clause-turn
returns-clause-turn c = turn_taken _ _ _ _ _ _ _ _ _ c.from-rank.ensures c.in_ok-play.ensures.ok c.in_ok-play-2.ensures.taken
