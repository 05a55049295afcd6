-- A search that leaves a run out where it met one that stands there, be it done with that one or not:
-- what it searched is a set of states that is closed (a graph of states with its cycles, where a search
-- without stored states has a tree: Godefroid 1996, chapter 2).
use Rattle.std.specs.Prelude.{◌≡◌, ◌⊎◌, ℕ, ◌<◌, false, List, length}
use Rattle.rank_language.specs.Program.{ProgramValue}
use Rattle.rank_machine.specs.States.{State}
use Rattle.crash_free.specs.Alike.{StandAlike}
use Rattle.crash_free.specs.Runs.{Passed}
use Rattle.explore.specs.Sending.{IsRunUnder}
use Rattle.crash_free.specs.Sim.{start_of}
use Rattle.explore.specs.Endings.{Ending}
use Rattle.explore.specs.Exploring.{EndsFound, IsSearchedUpTo}
use Rattle.explore.specs.Met.{Kept, StandsAmong}
use Rattle.explore.specs.Outcomes.{IsAmong}
use Rattle.explore.specs.declared.send_mode.SendMode.{SendMode}

-- the run is maximal, and its ending is found, or one was met that stands where it does
abbrev pub EndsOrWasMet : SendMode → (ℕ → State) → ℕ → (Ending → Type 0) → (List Passed → Type 0) → List Passed → Type 0
EndsOrWasMet mode start n found met P = EndsFound mode start n found P ⊎ met P

-- so it is, and has more acts than so many where it goes on
abbrev pub EndsOrIsLonger : SendMode → (ℕ → State) → ℕ → (Ending → Type 0) → (List Passed → Type 0) → ℕ → List Passed → Type 0
EndsOrIsLonger mode start n found met k P = EndsFound mode start n found P ⊎ ((k < length P) × met P)

-- All was searched that may follow each run that was met, up to ends that are found and to longer runs that were met.
abbrev pub IsClosed : SendMode → (ℕ → State) → ℕ → (Ending → Type 0) → (List Passed → Type 0) → Type 0
IsClosed mode start n found met = (m : List Passed) → met m → IsSearchedUpTo mode start n (EndsOrIsLonger mode start n found met (length m)) m

-- One was met that stands alike with this run of the program on n ranks, and is as long, unless a search closes over what was met.
pub record MeetsOne (mode : SendMode) (program : ProgramValue) (n : ℕ) (met : Kept) (P : List Passed) : Type 0 where
  pub run : List Passed
  pub stood : StandsAmong mode program n met run
  pub is_run : IsRunUnder mode (start_of program n) n P
  pub alike : StandAlike (start_of program n) n run P
  pub as_long : met.closes ≡ false → length run ≡ length P

-- all was searched that may follow this run, up to these endings and to runs that stand where one was met
abbrev pub IsSearchedToMet : SendMode → ProgramValue → ℕ → List Ending → Kept → List Passed → Type 0
IsSearchedToMet mode program n found met P =
    IsSearchedUpTo mode (start_of program n) n (EndsOrWasMet mode (start_of program n) n (IsAmong found) (MeetsOne mode program n met)) P

-- so it was, and these have more acts than the run
abbrev pub IsSearchedBehind : SendMode → ProgramValue → ℕ → List Ending → Kept → List Passed → Type 0
IsSearchedBehind mode program n found met P =
    IsSearchedUpTo mode (start_of program n) n (EndsOrIsLonger mode (start_of program n) n (IsAmong found) (MeetsOne mode program n met) (length P)) P
