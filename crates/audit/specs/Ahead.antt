-- An audit that goes on while the ranks of a run still do. It takes the events of each rank as they
-- come, and what it made counts once an outcome is seen to begin with it.
use Rattle.std.specs.Prelude.{◌≡◌, ◌≢◌, ℕ, ◌≤◌, List, [], ◌∷◌, ◌++◌, length, Option, Some, IfSome, slice_get}
use Rattle.limits.specs.Limits.{most_ranks}
use Rattle.event_logger.specs.Sequential.Event.{EventValue}
use Rattle.rank_language.specs.Program.{ProgramValue}
use Rattle.crash_free.specs.Sim.{SimValue}
use Rattle.audit.specs.Audits.{Keeps}
use Rattle.audit.specs.Playing.{HasLeft}
use Rattle.audit.specs.Rows.{row}
use Rattle.audit.specs.Trace.{TraceValue}

-- from the first simulation to the second rank r goes on: it had k steps left, and has j
pub record Spends (r k j : ℕ) (s s' : SimValue) : Type 0 where
  pub own : (total : ℕ) → HasLeft s r total k → HasLeft s' r total j
  pub others : (q total i : ℕ) → q ≢ r → HasLeft s q total i → HasLeft s' q total i

-- this event comes to the row of rank r, and to no other
pub record AddsEvent (r : ℕ) (e : EventValue) (s s' : SimValue) : Type 0 where
  pub own : row s'.run r ≡ row s.run r ++ e ∷ []
  pub others : (q : ℕ) → q ≢ r → row s'.run q ≡ row s.run q

-- all rows stay
abbrev pub KeepsRows : SimValue → SimValue → Type 0
KeepsRows s s' = (q : ℕ) → row s'.run q ≡ row s.run q

-- what is kept of a run that is made ahead: where it stands, what an audit keeps of each rank's acts,
-- how many steps each rank has left, and which events of it were taken
pub record ProgressValue : Type 0 where
  pub sim : SimValue
  pub traces : List TraceValue
  pub left : List ℕ
  pub taken : List (List EventValue)

-- it is kept of each rank, and the events of each in the run are those that were taken
pub record IsProgress (p : ProgressValue) : Type 0 where
  pub keeps : Keeps p.sim p.traces
  pub left : length p.left ≡ length p.sim.machines
  pub taken : length p.taken ≡ length p.sim.machines
  pub rows : (r : ℕ) (events : List EventValue) → slice_get p.taken r ≡ Some events → events ≡ row p.sim.run r

-- of which program a run is made ahead, on how many ranks, and how many steps each may make
pub record AheadValue : Type 0 where
  pub program : ProgramValue
  pub ranks : ℕ
  pub steps : ℕ

-- the run is of this program and so many ranks, and of so many steps each has left what is kept
pub record IsAhead (a : AheadValue) (p : ProgressValue) : Type 0 where
  pub program : p.sim.program ≡ a.program
  pub size : length p.sim.machines ≡ a.ranks
  pub progress : IsProgress p
  pub counts : (r k : ℕ) → slice_get p.left r ≡ Some k → HasLeft p.sim r a.steps k

-- so many ranks a run may have, and what was made of it, if anything, is ahead
pub record HasMade (a : AheadValue) (made : Option ProgressValue) : Type 0 where
  pub some : 1 ≤ a.ranks
  pub few : a.ranks ≤ most_ranks
  pub ahead : IfSome made (IsAhead a)
