use Rattle.std.proofs.Common.{subst}
use Rattle.crash_free.specs.Sim.{CollectivesAgree}
use Rattle.crash_free.proofs.Agreeing.{agrees}
use Rattle.crash_free.proofs.sim.Sim.ranks.Goals as goal

pub returns-clause-collectives : goal.returns-clause-collectives
returns-clause-collectives c = subst CollectivesAgree c.self.view_is (agrees _ c.self.invariant.0.simulates)
