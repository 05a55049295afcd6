use Rattle.bare_world.proofs.Again.Loops.{restart_next}
use Rattle.bare_world.proofs.bare_world.BareWorld.restart_all.Goals as goal

-- src/bare_world/way.rt
pub loop-rank-preserved : goal.loop-rank-preserved
loop-rank-preserved c =
    restart_next _ _ _ _ _ _ _ _ _ c.from.ensures c.loop-rank.invariant.0 c.loop-rank.invariant.1 c.in_ok-drive.ensures.follows c.in_ok-drive.ensures.list
