use Rattle.bare_world.specs.declared.event.WorldEvent.TheVariants.{Put}
use Rattle.bare_world.proofs.Again.Loops.{round_none, round_some}
use Rattle.bare_world.proofs.Alike.OneEventMore.{world_after}
use Rattle.bare_world.proofs.bare_world.BareWorld.round.Goals as goal

-- src/bare_world/way.rt
pub returns-in_default-clause-flushed : goal.returns-in_default-clause-flushed
returns-in_default-clause-flushed c =
    (round_none _ _ _ _ _ _ _ _ _ c.from.ensures c.from-2.ensures c.requires.world c.requires.dest c.in_ok-drive.ensures.follows
    c.in_ok-drive.ensures.list c.in_default.ensures).0

-- src/bare_world/way.rt
pub drive-requires-2 : goal.drive-requires-2
drive-requires-2 c = world_after _ (Put c.from.result c.from-2.result) _ _ c.requires.world c.in_ok-drive.ensures.follows

-- src/bare_world/way.rt
pub returns-clause-flushed : goal.returns-clause-flushed
returns-clause-flushed c =
    (round_some _ _ _ _ _ _ _ _ _ _ _ _ _ _ _ c.from.ensures c.from-2.ensures c.from-3.ensures c.from-4.ensures c.requires.world c.requires.live c.requires.dest
    c.in_ok-drive.ensures.follows c.in_ok-drive.ensures.list c.in-Some.ensures c.in_ok-drive-2.ensures.follows c.in_ok-drive-2.ensures.list).0

-- src/bare_world/way.rt
pub returns-in_default-clause-more : goal.returns-in_default-clause-more
returns-in_default-clause-more c =
    (round_none _ _ _ _ _ _ _ _ _ c.from.ensures c.from-2.ensures c.requires.world c.requires.dest c.in_ok-drive.ensures.follows
    c.in_ok-drive.ensures.list c.in_default.ensures).1

-- src/bare_world/way.rt
pub returns-clause-more : goal.returns-clause-more
returns-clause-more c =
    (round_some _ _ _ _ _ _ _ _ _ _ _ _ _ _ _ c.from.ensures c.from-2.ensures c.from-3.ensures c.from-4.ensures c.requires.world c.requires.live c.requires.dest
    c.in_ok-drive.ensures.follows c.in_ok-drive.ensures.list c.in-Some.ensures c.in_ok-drive-2.ensures.follows c.in_ok-drive-2.ensures.list).1
