-- Stops of the run that was played last: a branch that goes off it is taken up from the closest, where VeriSoft makes its run again from the
-- beginning (Godefroid 1997).
use Rattle.std.specs.Prelude.{◌≡◌, ◌⊎◌, ℕ, ◌≤◌, List, length}
use Rattle.rank_language.specs.Program.{ProgramValue}
use Rattle.crash_free.specs.Points.{IsPointOf, stood}
use Rattle.crash_free.specs.Runs.{Passed}
use Rattle.crash_free.specs.Sim.{SimValue}
use Rattle.explore.specs.declared.stops.Stop.{Stop}
use Rattle.explore.specs.declared.stops.Stops.{Stops}
use Rattle.explore.specs.Counts.{Counts}
use Rattle.explore.specs.Outcomes.{IsAmong}
use Rattle.explore.specs.Resting.{AreResting}

-- The stop is one of this run of the program on n ranks: its point is, what each rank had made there and what it had left are so many
-- steps together, and the ranks with a mark rest there.
pub record IsStop (program : ProgramValue) (n steps : ℕ) (C : List Passed) (stop : Stop) : Type 0 where
  pub point : IsPointOf program n C stop.point
  pub counts : Counts steps (stood program C stop.point) stop.left
  pub resting : AreResting (stood program C stop.point) stop.marks

-- the stop is one of these
abbrev pub IsOneOf : Stops → Stop → Type 0
IsOneOf stops stop = (stop ≡ stops.first) ⊎ IsAmong stops.later.items stop

-- it is the one of these behind the most acts
pub record IsClosest (stops : Stops) (stop : Stop) : Type 0 where
  pub one : IsOneOf stops stop
  pub most : (other : Stop) → IsOneOf stops other → other.point.made ≤ stop.point.made

-- each of these is behind so many acts, or fewer
abbrev pub AreWithin : ℕ → Stops → Type 0
AreWithin k stops = (stop : Stop) → IsOneOf stops stop → stop.point.made ≤ k

-- each of the first is one of the second, and their first one is the same
pub record AreSomeOf (some all : Stops) : Type 0 where
  pub first : some.first ≡ all.first
  pub later : (stop : Stop) → IsAmong some.later.items stop → IsAmong all.later.items stop

-- each is a stop of this run, and the first is at its beginning
pub record AreStops (program : ProgramValue) (n steps : ℕ) (C : List Passed) (stops : Stops) : Type 0 where
  pub begins : stops.first.point.made ≡ 0
  pub each : (stop : Stop) → IsOneOf stops stop → IsStop program n steps C stop

-- a search can go back from a simulation whose ranks have so many steps left: these are counted, and the stops are of its run
pub record CanGoBack (steps : ℕ) (s : SimValue) (left : List ℕ) (stops : Stops) : Type 0 where
  pub counts : Counts steps s left
  pub of_run : AreStops s.program (length s.machines) steps s.run stops

-- so it can from the second, if it can from the first
abbrev pub KeepsStops : SimValue → List ℕ → Stops → SimValue → List ℕ → Stops → Type 0
KeepsStops s left stops s' left' stops' = (steps : ℕ) → CanGoBack steps s left stops → CanGoBack steps s' left' stops'
