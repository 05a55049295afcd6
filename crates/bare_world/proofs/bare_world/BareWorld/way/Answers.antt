use Rattle.bare_world.proofs.Again.WholeWay.{ready_start, way_found, way_caught_up}
use Rattle.bare_world.proofs.bare_world.BareWorld.way.Goals as goal

-- src/bare_world/way.rt
pub make_all-requires : goal.make_all-requires
make_all-requires c =
    ready_start _ _ _ _ _ _ _ _ c.in_ok-restart_all.ensures.live c.in_ok-flush_all.ensures.flushed c.in_ok-flush_all.ensures.emptied
    c.in_ok-hear_all.ensures.listened c.in_ok-hear_all.ensures.heard c.in_ok-flush_all-2.ensures.flushed c.in_ok-flush_all-2.ensures.emptied

-- src/bare_world/way.rt
pub returns-clause-way : goal.returns-clause-way
returns-clause-way c =
    way_found _ _ _ _ _ _ _ _ _ _ _ _ c.new-events.ensures.items c.requires c.in_ok-restart_all.ensures.advanced c.in_ok-flush_all.ensures.flushed
    c.in_ok-hear_all.ensures.listened c.in_ok-flush_all-2.ensures.flushed c.in_ok-make_all.ensures.advanced c.in_ok-make_all.ensures.ready

-- src/bare_world/way.rt
pub returns-clause-caught_up : goal.returns-clause-caught_up
returns-clause-caught_up c =
    way_caught_up _ _ _ _ _ _ _ _ _ _ _ _ c.in_ok-restart_all.ensures.advanced c.in_ok-flush_all.ensures.flushed
    c.in_ok-hear_all.ensures.listened c.in_ok-flush_all-2.ensures.flushed c.in_ok-make_all.ensures.advanced c.in_ok-make_all.ensures.ready
