use Rattle.std.specs.Prelude.{reverse}
use Rattle.crash_free.proofs.Choosing.{legal_there}
use Rattle.crash_free.proofs.sim.Sim.wants.Goals as goal

pub returns-clause-legal : goal.returns-clause-legal
returns-clause-legal c =
    let s = c.self.inside in
    legal_there c.args.self.now s.program.now s.machines.items s.mail (reverse s.passed.items) c.from.result c.args.rank c.index-machine.result.now
    c.wants.result c.self.view_is c.self.invariant.0 c.from.ensures c.requires c.index-machine.ensures c.wants.ensures.legal
