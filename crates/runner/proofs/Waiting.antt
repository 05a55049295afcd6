-- Who waits in a send after a run that was found again.
use Rattle.std.proofs.Common.{ℕ, List, ◌⊎◌, inl}
use Rattle.audit.specs.FinalRuns.Maximal.{RankOutcome}
use Rattle.explore.specs.Sending.{IsOutcomeUnder}
use Rattle.crash_free.specs.Sim.{SimValue, start_of}
use Rattle.explore.specs.Searching.{IsSimOf}
use Rattle.rank_language.specs.Program.{ProgramValue}
use Rattle.runner.specs.Waits.{AreWaits, IsEmpty, WaitWith}
use Rattle.runner.specs.declared.explored.safety.WaitingRanks.{WaitingRanks}
use Rattle.explore.specs.declared.send_mode.SendMode.TheVariants.{Synchronous}

-- who waits after it does so in a run with the outcome
pub wait_with : (program : ProgramValue) (n : ℕ) (lines : List ℕ) (outcome : List RankOutcome) (run : SimValue) (waits : WaitingRanks)
    → IsOutcomeUnder Synchronous (start_of program n) n run.run outcome → IsSimOf program n run → AreWaits lines run waits
    → WaitWith program n lines outcome waits ⊎ IsEmpty waits
wait_with program n lines outcome run waits ended made wait = inl (record { run = run; made = made; ended = ended; wait = wait })
