-- The run that an audit finds, the witness of its yes: a simulation that has come to an outcome.
use Rattle.std.specs.Prelude.{◌≡◌, ℕ, Some, length, slice_get}
use Rattle.rank_language.specs.Program.{ProgramValue}
use Rattle.crash_free.specs.Sim.{SimValue, start_of}
use Rattle.audit.specs.declared.outcome.End.{End}
use Rattle.audit.specs.Outcome.{OutcomeValue, IsOutcome}
use Rattle.audit.specs.Audits.{AreReached}
use Rattle.audit.specs.Reachable.{IsWithinSteps}

-- The simulation is of this program on n ranks, its run has the outcome, each machine asks for what
-- its rank may want that ended as the outcome says, and no rank needed more than so many steps for
-- its part.
pub record IsFound (p : ProgramValue) (n : ℕ) (o : OutcomeValue) (steps : ℕ) (s : SimValue) : Type 0 where
  pub program : s.program ≡ p
  pub size : length s.machines ≡ n
  pub outcome : IsOutcome (start_of p n) n s.run o
  pub reached : AreReached s o
  pub within : (r : ℕ) (e : End) → slice_get o.ends r ≡ Some e → IsWithinSteps p n steps s.run r e
