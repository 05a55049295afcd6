-- How a run ends: its outcome, and beside it what was never received. Runs with one outcome may differ in that.
use Rattle.std.specs.Prelude.{◌≡◌, ℕ, Bool, true, List, length, Some, slice_get}
use Rattle.rank_language.specs.Program.{ProgramValue}
use Rattle.rank_machine.specs.States.{State}
use Rattle.crash_free.specs.declared.leftover.Leftover.{Leftover}
use Rattle.crash_free.specs.Leftovers.{left_in}
use Rattle.crash_free.specs.Runs.{Passed}
use Rattle.crash_free.specs.Sim.{start_of}
use Rattle.audit.specs.FinalRuns.Maximal.{RankOutcome}
use Rattle.explore.specs.Sending.{IsOutcomeUnder}
use Rattle.explore.specs.Outcomes.{IsAmong, AreDistinct}
use Rattle.explore.specs.declared.send_mode.SendMode.{SendMode}

-- an outcome, and what was never received
pub record Ending : Type 0 where
  pub ranks : List RankOutcome
  pub left : List Leftover

-- they are those of this run of n ranks, which is maximal
pub record IsEndingOf (mode : SendMode) (start : ℕ → State) (n : ℕ) (C : List Passed) (e : Ending) : Type 0 where
  pub outcome : IsOutcomeUnder mode start n C e.ranks
  pub left : e.left ≡ left_in n C

-- some maximal run of this program on n ranks ends so
abbrev pub MayEndAs : SendMode → ProgramValue → ℕ → Ending → Type 0
MayEndAs mode program n e = (C : List Passed) × IsEndingOf mode (start_of program n) n C e

-- Of each of these outcomes some leftovers are listed, none twice, and each is what was never received in some maximal run that has the
-- outcome. If all were searched, each such run left what is listed.
pub record AreLeftovers (mode : SendMode) (program : ProgramValue) (n : ℕ) (all : Bool) (outcomes : List (List RankOutcome)) (left : List (List (List Leftover)))
    : Type 0 where
  pub as_many : length left ≡ length outcomes
  pub some_run : (i : ℕ) (o : List RankOutcome) (listed : List (List Leftover)) (l : List Leftover) → slice_get outcomes i ≡ Some o
      → slice_get left i ≡ Some listed → IsAmong listed l → MayEndAs mode program n (record { ranks = o; left = l })
  pub no_others : all ≡ true → (i : ℕ) (o : List RankOutcome) (listed : List (List Leftover)) (l : List Leftover) → slice_get outcomes i ≡ Some o
      → slice_get left i ≡ Some listed → MayEndAs mode program n (record { ranks = o; left = l }) → IsAmong listed l
  pub distinct : (i : ℕ) (listed : List (List Leftover)) → slice_get left i ≡ Some listed → AreDistinct listed
