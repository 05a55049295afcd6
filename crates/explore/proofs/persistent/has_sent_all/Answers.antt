use Rattle.std.proofs.Common.{refl}
use Rattle.explore.proofs.PersistingSilent.{ended_silent, claimed_silent}
use Rattle.explore.proofs.persistent.has_sent_all.Goals as goal

pub returns-in-Halted : goal.returns-in-Halted
returns-in-Halted c =
    λ yes. ended_silent c.args.rank c.args.selector.now.context c.args.selector.now.tag c.args.sim.now c.args.source c.wants.result c.requires.stands c.wants.ensures.wanted (rw c.in-Halted.is tt)

pub returns-in-Faulted : goal.returns-in-Faulted
returns-in-Faulted c =
    λ yes. ended_silent c.args.rank c.args.selector.now.context c.args.selector.now.tag c.args.sim.now c.args.source c.wants.result c.requires.stands c.wants.ensures.wanted (rw c.in-Faulted.is tt)

pub returns-in-PointToPoint : goal.returns-in-PointToPoint
returns-in-PointToPoint c =
    claimed_silent c.args.rank c.args.selector.now.context c.args.selector.now.tag c.args.sim.now c.args.source c.position.result
    (record { ranks = c.ranks.result; sender = c.args.source; receiver = c.args.rank; tag = c.args.selector.now.tag }) c.machine.result.now
    c.args.silences.now c.claim.result c.in-PointToPoint.is c.requires.stands c.requires.programs c.requires.table c.machine.ensures
    c.position.ensures c.ranks.ensures.value refl refl refl c.claim.ensures
