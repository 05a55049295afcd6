use Rattle.bare_world.proofs.Ending.Rounds.{rounds_whole}
use Rattle.world_model.proofs.world.World.play_out.Goals as goal

-- src/world/finishing.rt
pub returns-clause-end : goal.returns-clause-end
returns-clause-end c = λ none.
    c.come_to.ensures.end c.args.self.now c.args.rounds c.play_rounds.new.events.items (rounds_whole _ _ _ _ _ _ none c.in_ok-quiet.ensures.rounds)
