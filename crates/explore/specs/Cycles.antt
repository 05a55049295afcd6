-- Runs that come back to where they stood, and so may go on for ever (a cycle of the states that a search stores: Holzmann 1997). What a
-- rank printed is a part of where it stands, so a loop that prints comes back to no state.
use Rattle.std.specs.Prelude.{◌≡◌, ℕ, ◌≤◌, List, length}
use Rattle.rank_language.specs.Program.{ProgramValue}
use Rattle.crash_free.specs.LiveVariables.Live.{Table}
use Rattle.crash_free.specs.Runs.{Passed}
use Rattle.explore.specs.Sending.{HasRunUnder, IsRunUnder}
use Rattle.crash_free.specs.Sim.{SimValue, Simulates, start_of}
use Rattle.crash_free.specs.Standing.{Rows, no_rows, behind, and_number, and_rank, and_below, StandsAt}
use Rattle.explore.specs.Stems.{GoesBehind}
use Rattle.explore.specs.declared.send_mode.SendMode.{SendMode}

-- the program has runs of any length on n ranks
abbrev pub MayGoOnForEver : SendMode → ProgramValue → ℕ → Type 0
MayGoOnForEver mode program n = (k : ℕ) → (C : List Passed) × IsRunUnder mode (start_of program n) n C × (k ≤ length C)

-- where all ranks stand, whatever the length of the run
abbrev pub ranks_rows : Table → SimValue → Rows
ranks_rows t s = and_below (and_rank t s) no_rows (length s.machines)

-- the run stands where these rows say, of the ranks of a simulation
abbrev pub StandsIn : SimValue → Rows → List Passed → Type 0
StandsIn s rows C = StandsAt s.program (length s.machines) C (behind (and_number no_rows (length C)) rows)

-- the run of the simulation went on from one that has so many acts and stands where these rows say
pub record WentOnFrom (s : SimValue) (rows : Rows) (made : ℕ) : Type 0 where
  pub run : List Passed
  pub stood : StandsIn s rows run
  pub long : length run ≡ made
  pub later : GoesBehind run s.run

-- the second simulation is one of the same ranks, and its run is the first one's or goes on from it
pub record GoesFurther (mode : SendMode) (s s' : SimValue) : Type 0 where
  pub program : s'.program ≡ s.program
  pub ranks : length s'.machines ≡ length s.machines
  pub later : GoesBehind s.run s'.run
  pub stands : Simulates s'
  pub runs : HasRunUnder mode s → HasRunUnder mode s'
