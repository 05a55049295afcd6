use Rattle.bare_world.proofs.Lists.NewRanks.{all_more}
use Rattle.bare_world.proofs.seats.new_seats.Goals as goal

-- src/seats.rt
pub loop-rank-preserved : goal.loop-rank-preserved
loop-rank-preserved c =
    all_more _ _ _ _ _ _ c.in_default.ensures.items c.loop-rank.invariant.0 c.loop-rank.invariant.1 c.in-Ok.ensures
