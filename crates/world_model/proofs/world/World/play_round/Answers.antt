use Rattle.bare_world.specs.Finished.{for_all}
use Rattle.bare_world.proofs.Ending.IsPlayedOn.{quiet_last}
use Rattle.bare_world.proofs.Ending.TriedInVain.{round_still}
use Rattle.bare_world.proofs.Ending.Rounds.{round_of_two, round_of_three}
use Rattle.world_model.proofs.world.World.play_round.Goals as goal

-- src/world/finishing.rt
pub returns-clause-tried : goal.returns-clause-tried
returns-clause-tried c =
    round_still _ _ _ _ _ _ _ _ _ _ c.in_ok-step_all.ensures.tried c.in_ok-open_gates.ensures.tried c.in_ok-pass_all.ensures.tried
    c.in_ok-find_lost.ensures.tried

-- src/world/finishing.rt
pub returns-then-len-before-clause-round : goal.returns-then-len-before-clause-round
returns-then-len-before-clause-round c =
    round_of_two _ _ _ _ _ _ _ _ c.in_ok-step_all.ensures.turns c.in_ok-step_all.ensures.ok c.in_ok-open_gates.ensures.ok c.in_ok-pass_all.ensures.ok

-- src/world/finishing.rt
pub returns-clause-round : goal.returns-clause-round
returns-clause-round c =
    round_of_three _ _ _ _ _ _ _ _ _ _ c.in_ok-step_all.ensures.turns c.in_ok-step_all.ensures.ok c.in_ok-open_gates.ensures.ok
    c.in_ok-pass_all.ensures.ok c.in_ok-find_lost.ensures.ok

-- src/world/finishing.rt
pub returns-then-len-before-clause-ok : goal.returns-then-len-before-clause-ok
returns-then-len-before-clause-ok c =
    quiet_last (for_all 1) _ _ _ _ _ _ (quiet_last (for_all 1) _ _ _ _ _ _ c.in_ok-step_all.ensures.ok c.in_ok-open_gates.ensures.ok)
    c.in_ok-pass_all.ensures.ok

-- src/world/finishing.rt
pub returns-clause-ok : goal.returns-clause-ok
returns-clause-ok c =
    quiet_last (for_all 1) _ _ _ _ _ _
    (quiet_last (for_all 1) _ _ _ _ _ _ (quiet_last (for_all 1) _ _ _ _ _ _ c.in_ok-step_all.ensures.ok c.in_ok-open_gates.ensures.ok)
    c.in_ok-pass_all.ensures.ok)
    c.in_ok-find_lost.ensures.ok
