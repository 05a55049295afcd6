use Rattle.explore.proofs.Moving.{moves_nothing, moves_next, moves_receive, moves_probe, moves_try}
use Rattle.explore.proofs.moves.add_moves.Goals as goal

pub returns-in-Halted-clause-adds : goal.returns-in-Halted-clause-adds
returns-in-Halted-clause-adds c = λ e.
    moves_nothing c.args.sim.now c.args.rank c.requires.stands c.wants.result c.args.moves.now.items c.wants.ensures.wanted (rw c.in-Halted.is tt)

pub returns-in-Faulted-clause-adds : goal.returns-in-Faulted-clause-adds
returns-in-Faulted-clause-adds c = λ e.
    moves_nothing c.args.sim.now c.args.rank c.requires.stands c.wants.result c.args.moves.now.items c.wants.ensures.wanted (rw c.in-Faulted.is tt)

pub returns-in_ok-push-in-Send-clause-adds : goal.returns-in_ok-push-in-Send-clause-adds
returns-in_ok-push-in-Send-clause-adds c = λ e.
    rw c.in_ok-push-in-Send.ensures.items
    (moves_next c.args.sim.now c.args.rank c.requires.stands c.wants.result c.args.moves.now.items c.wants.ensures.wanted (rw c.in-Send.is tt))

pub returns-in_ok-push-in-Print-clause-adds : goal.returns-in_ok-push-in-Print-clause-adds
returns-in_ok-push-in-Print-clause-adds c = λ e.
    rw c.in_ok-push-in-Print.ensures.items
    (moves_next c.args.sim.now c.args.rank c.requires.stands c.wants.result c.args.moves.now.items c.wants.ensures.wanted (rw c.in-Print.is tt))

pub returns-in_ok-add_takes-in-Receive-clause-adds : goal.returns-in_ok-add_takes-in-Receive-clause-adds
returns-in_ok-add_takes-in-Receive-clause-adds c = λ e.
    moves_receive c.args.sim.now c.args.rank c.requires.stands c.in-Receive.selector c.args.moves.now.items c.add_takes.new.moves.items
    (rw c.in-Receive.is at c.wants.ensures.wanted) c.in_ok-add_takes-in-Receive.ensures

pub returns-in_ok-add_takes-in-Probe-clause-adds : goal.returns-in_ok-add_takes-in-Probe-clause-adds
returns-in_ok-add_takes-in-Probe-clause-adds c = λ e.
    moves_probe c.args.sim.now c.args.rank c.requires.stands c.in-Probe.selector c.args.moves.now.items c.add_takes-in-Probe.new.moves.items
    (rw c.in-Probe.is at c.wants.ensures.wanted) c.in_ok-add_takes-in-Probe.ensures

pub returns-in_ok-push-in-TryProbe-clause-adds : goal.returns-in_ok-push-in-TryProbe-clause-adds
returns-in_ok-push-in-TryProbe-clause-adds c = λ e.
    rw c.in_ok-push-in-TryProbe.ensures.items
    (moves_try c.args.sim.now c.args.rank c.requires.stands c.in-TryProbe.selector c.args.moves.now.items c.add_takes-in-TryProbe.new.moves.items
    (rw c.in-TryProbe.is at c.wants.ensures.wanted) c.in_ok-add_takes-in-TryProbe.ensures)
