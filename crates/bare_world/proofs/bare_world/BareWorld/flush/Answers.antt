use Rattle.bare_world.proofs.Again.Calls.{flushed_more}
use Rattle.bare_world.proofs.Again.Loops.{emptied, where_true, where_false}
use Rattle.bare_world.proofs.bare_world.BareWorld.flush.Goals as goal

-- src/bare_world/way.rt
pub loop-preserved : goal.loop-preserved
loop-preserved c = flushed_more _ _ _ _ _ _ c.loop.invariant c.in_ok-round.ensures.flushed

-- src/bare_world/way.rt
pub returns-clause-flushed : goal.returns-clause-flushed
returns-clause-flushed c = flushed_more _ _ _ _ _ _ c.loop.invariant c.in_ok-round.ensures.flushed

-- src/bare_world/way.rt
pub returns-clause-emptied : goal.returns-clause-emptied
returns-clause-emptied c =
    emptied _ _ _ _ _ _ _ _ c.loop.invariant c.in_ok-round.ensures.flushed (where_false _ _ _ c.if-branch.false c.in_ok-round.ensures.more)

-- src/bare_world/way.rt
pub loop-smaller : goal.loop-smaller
loop-smaller c = where_true _ _ _ c.if-branch.true c.in_ok-round.ensures.more
