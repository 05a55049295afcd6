-- What is left of a search, depth first: branches that share what is behind them with the run that
-- was played last, so that this much of their runs is made again (VeriSoft: Godefroid 1997), or taken
-- from a stop.
use Rattle.std.specs.Prelude.{◌≡◌, ℕ, ◌≤◌, List, [], Option, Some, None, length, map, slice_get}
use Rattle.rank_language.specs.Program.{ProgramValue}
use Rattle.rank_machine.specs.Acts.{Act}
use Rattle.crash_free.specs.Runs.{Passed}
use Rattle.crash_free.specs.Sim.{choice_of, start_of}
pub use Rattle.crash_free.specs.Points.{first_acts, GoesBehind}
use Rattle.explore.specs.declared.branch.Branch.{Branch}
use Rattle.explore.specs.declared.moves.Move.{Move}
use Rattle.explore.specs.Sending.{MayFollowUnder}
use Rattle.explore.specs.Exploring.{and_then}
use Rattle.explore.specs.Outcomes.{IsAmong}
use Rattle.explore.specs.declared.send_mode.SendMode.{SendMode}

-- a beginning of a run, and the move that is to be made there, if one is
pub record Stem : Type 0 where
  pub before : List Passed
  pub chosen : Option Move

-- the whole of a program: the empty run, and no move
abbrev pub whole : Stem
whole = record { before = []; chosen = None }

-- the stem of a branch that goes off this run
abbrev pub stem_of : List Passed → Branch → Stem
stem_of C b = record { before = first_acts b.shared C; chosen = b.chosen }

-- the stems of the branches
abbrev pub stems_of : List Passed → List Branch → List Stem
stems_of C pending = map (stem_of C) pending

-- the move stands for this act, which may follow the run
abbrev pub StandsFor : SendMode → ProgramValue → ℕ → List Passed → Move → Act → Type 0
StandsFor mode program n C m act = MayFollowUnder mode (start_of program n) n C m.rank act × (choice_of act ≡ m.choice)

-- the second run is the first, with an act more that the move stands for, if there is a move
abbrev pub IsAfter : SendMode → ProgramValue → ℕ → List Passed → Option Move → List Passed → Type 0
IsAfter mode program n C None P = P ≡ C
IsAfter mode program n C (Some m) P = (act : Act) × StandsFor mode program n C m act × (P ≡ and_then C m.rank act)

-- so it is of the stem
abbrev pub IsRunOf : SendMode → ProgramValue → ℕ → Stem → List Passed → Type 0
IsRunOf mode program n x P = IsAfter mode program n x.before x.chosen P

-- the run is left to one of the stems
abbrev pub IsLeftTo : SendMode → ProgramValue → ℕ → List Stem → List Passed → Type 0
IsLeftTo mode program n pending P = (x : Stem) × IsAmong pending x × IsRunOf mode program n x P

-- The branches go off this run, none behind one that shares more of it, and there is a run of each.
pub record GoOff (mode : SendMode) (program : ProgramValue) (n : ℕ) (C : List Passed) (pending : List Branch) : Type 0 where
  pub within : (b : Branch) → IsAmong pending b → b.shared ≤ length C
  pub rising : (i j : ℕ) (b c : Branch) → i ≤ j → slice_get pending i ≡ Some b → slice_get pending j ≡ Some c → b.shared ≤ c.shared
  pub some_run : (b : Branch) → IsAmong pending b → (P : List Passed) × IsRunOf mode program n (stem_of C b) P
