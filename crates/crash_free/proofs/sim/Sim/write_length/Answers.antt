use Rattle.std.proofs.Common.{length, refl, subst}
use Rattle.crash_free.specs.LiveVariables.Live.{Table, IsTableOf}
use Rattle.crash_free.specs.Standing.{rows_of, StandsAt}
use Rattle.crash_free.proofs.SameRows.{stands_at}
use Rattle.crash_free.proofs.sim.Sim.write_length.Goals as goal

pub returns-clause-stands : goal.returns-clause-stands
returns-clause-stands c =
    subst (λ now. (t : Table) → IsTableOf now.program t → StandsAt now.program (length now.machines) now.run (rows_of t now)) c.self.view_is
    (λ t right. stands_at _ c.self.invariant.0.simulates c.self.invariant.0.ranks t right _ refl)
