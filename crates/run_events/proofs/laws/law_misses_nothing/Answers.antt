use Rattle.run_events.proofs.Missing.{world_misses_none}
use Rattle.run_events.proofs.laws.law_misses_nothing.Goals as goal

-- what the world's own law says, in the words of a search
pub returns : goal.returns
returns c = world_misses_none c.args.world.now c.law_misses_nothing.ensures
