use Rattle.checkpoint.specs.Spelling.{lane}
use Rattle.checkpoint.specs.Legal.{IsStored}
use Rattle.checkpoint.proofs.Written.{begins, writes, spelled_all, legal_all}
use Rattle.checkpoint.proofs.write_image.put_lanes.Goals as goal

pub loop-l-init : goal.loop-l-init
loop-l-init c = begins lane IsStored c.args.out.now.items c.args.log.now

pub loop-l-preserved : goal.loop-l-preserved
loop-l-preserved c =
    writes lane IsStored c.args.out.now.items c.loop-l.out.items c.put_lane.new.out.items c.args.log.now c.loop-l.l-index _ c.l-item.result
    c.loop-l-test.true c.l-item.is c.in_ok-put_lane.ensures.spelled c.in_ok-put_lane.ensures.stored c.loop-l.invariant

pub returns-clause-spelled : goal.returns-clause-spelled
returns-clause-spelled c =
    spelled_all lane IsStored c.args.out.now.items c.loop-l.out.items c.args.log.now c.loop-l.l-index c.loop-l-test.false c.loop-l.invariant

pub returns-clause-stored : goal.returns-clause-stored
returns-clause-stored c =
    legal_all lane IsStored c.args.out.now.items c.loop-l.out.items c.args.log.now c.loop-l.l-index c.loop-l-test.false c.loop-l.invariant
