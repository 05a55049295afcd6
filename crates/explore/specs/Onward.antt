-- What may come of a run: the runs that go on from it, and their outcomes.
use Rattle.std.specs.Prelude.{ℕ, List}
use Rattle.rank_machine.specs.States.{State}
use Rattle.rank_machine.specs.Acts.{Act}
use Rattle.crash_free.specs.Runs.{Passed}
use Rattle.audit.specs.FinalRuns.Maximal.{RankOutcome}
use Rattle.explore.specs.Sending.{MayFollowUnder, IsOutcomeUnder}
use Rattle.explore.specs.Exploring.{and_then}
use Rattle.explore.specs.declared.send_mode.SendMode.{SendMode}

-- acts that may follow, one after another, lead from the one run to the other
pub data GoesOnTo (mode : SendMode) (start : ℕ → State) (n : ℕ) : List Passed → List Passed → Type 0 where
  there : {P : List Passed} → GoesOnTo mode start n P P
  further : {P C : List Passed} (r : ℕ) (act : Act) → MayFollowUnder mode start n P r act → GoesOnTo mode start n (and_then P r act) C → GoesOnTo mode start n P C

-- some maximal run that goes on from this one has the outcome
abbrev pub MayEndSo : SendMode → (ℕ → State) → ℕ → List Passed → List RankOutcome → Type 0
MayEndSo mode start n P o = (C : List Passed) × GoesOnTo mode start n P C × IsOutcomeUnder mode start n C o
