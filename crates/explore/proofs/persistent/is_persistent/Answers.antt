use Rattle.explore.proofs.Persisting.{persists_unasked}
use Rattle.explore.proofs.persistent.is_persistent.Goals as goal

pub returns-in-Send : goal.returns-in-Send
returns-in-Send c = λ yes. persists_unasked c.args.sim.now c.args.rank c.requires.stands c.wants.result c.wants.ensures.wanted (rw c.in-Send.is tt)

pub returns-in-Print : goal.returns-in-Print
returns-in-Print c = λ yes. persists_unasked c.args.sim.now c.args.rank c.requires.stands c.wants.result c.wants.ensures.wanted (rw c.in-Print.is tt)

pub returns-in-Halted : goal.returns-in-Halted
returns-in-Halted c = λ yes. persists_unasked c.args.sim.now c.args.rank c.requires.stands c.wants.result c.wants.ensures.wanted (rw c.in-Halted.is tt)

pub returns-in-Faulted : goal.returns-in-Faulted
returns-in-Faulted c = λ yes. persists_unasked c.args.sim.now c.args.rank c.requires.stands c.wants.result c.wants.ensures.wanted (rw c.in-Faulted.is tt)
